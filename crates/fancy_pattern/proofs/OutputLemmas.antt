-- Texts that are written one after the other.
use Rattle.std.proofs.Common.{◌≡◌, ℕ, ◌+◌, ◌<◌, List, [], ◌∷◌, ◌++◌, subst, append_assoc, append-nil, sym, refl, ap, ◌∙◌}
use Rattle.std.proofs.Common.{length, drop, get_or, add-one, drop-cons}
use Rattle.std.specs.Prelude.{Result, Ok, Err, OnOk}
use Rattle.std.proofs.Common.{true, nat_lt, chars}
use Rattle.std.specs.List.{flat_map, list_all}
use Rattle.std.proofs.lemmas.Str.{chars-IsAscii}
use Rattle.fancy_syntax.proofs.CapacityLemmas.{ascii}
use Rattle.std.proofs.Common.{if◌then◌else◌}
use Rattle.std.specs.Prelude.{is_ok}
use Rattle.fancy_lex.specs.Text.{Text, text_of}
use Rattle.fancy_pattern.specs.TextOutput.{Added}
use Rattle.fancy_pattern.specs.declared.output.TextOutput.{TextOutput}

pub added_nothing : (a : TextOutput) → Added a a []
added_nothing a = record { after = sym (append-nil (text_of a.text)) }

pub added_as : (a b : TextOutput) (xs all : Text) → Added a b xs → xs ≡ all →
    Added a b all
added_as a b xs all p e = subst (Added a b) e p

pub then_added : (a b c : TextOutput) (xs ys : Text) → Added a b xs →
    Added b c ys → Added a c (xs ++ ys)
then_added a b c xs ys p q =
    record { after = q.after ∙ ap (λ t. t ++ ys) p.after ∙ append_assoc (text_of a.text) xs ys }

pub added_two : (a b c : TextOutput) (xs ys all : Text) → Added a b xs →
    Added b c ys → xs ++ ys ≡ all → Added a c all
added_two a b c xs ys all p q e = added_as a c (xs ++ ys) all (then_added a b c xs ys p q) e

-- ---- the last text after others

pub last_as : {X E : Type 0} (r : Result X E) (a b : TextOutput) (xs all : Text) →
    OnOk r (Added a b xs) → xs ≡ all → OnOk r (Added a b all)
last_as (Ok v) a b xs all p e = added_as a b xs all p e
last_as (Err v) a b xs all p e = p

pub last_two : {X E : Type 0} (r : Result X E) (a b c : TextOutput) (xs ys all : Text) →
    Added a b xs → OnOk r (Added b c ys) → xs ++ ys ≡ all → OnOk r (Added a c all)
last_two (Ok v) a b c xs ys all p q e = added_two a b c xs ys all p q e
last_two (Err v) a b c xs ys all p q e = q

pub last_three : {X E : Type 0} (r : Result X E) (a b c d : TextOutput) (xs ys zs all : Text) →
    Added a b xs → Added b c ys → OnOk r (Added c d zs) → xs ++ (ys ++ zs) ≡ all →
    OnOk r (Added a d all)
last_three r a b c d xs ys zs all p q z e =
    last_two r a b d xs (ys ++ zs) all p (last_two r b c d ys zs (ys ++ zs) q z refl) e

pub last_four : {X E : Type 0} (r : Result X E) (a b c d e : TextOutput)
    (ws xs ys zs all : Text) → Added a b ws → Added b c xs → Added c d ys →
    OnOk r (Added d e zs) → ws ++ (xs ++ (ys ++ zs)) ≡ all → OnOk r (Added a e all)
last_four r a b c d e ws xs ys zs all o p q z same =
    last_two r a b e ws (xs ++ (ys ++ zs)) all o
    (last_three r b c d e xs ys zs (xs ++ (ys ++ zs)) p q z refl) same

pub last_five : {X E : Type 0} (r : Result X E) (a b c d e f : TextOutput)
    (vs ws xs ys zs all : Text) → Added a b vs → Added b c ws → Added c d xs → Added d e ys →
    OnOk r (Added e f zs) → vs ++ (ws ++ (xs ++ (ys ++ zs))) ≡ all → OnOk r (Added a f all)
last_five r a b c d e f vs ws xs ys zs all n o p q z same =
    last_two r a b f vs (ws ++ (xs ++ (ys ++ zs))) all n
    (last_four r b c d e f ws xs ys zs (ws ++ (xs ++ (ys ++ zs))) o p q z refl) same

pub ruleset added_steps = (added_nothing, added_as, added_two, last_as, last_two, last_three, last_four)

-- ---- a writing that began at a and is at b: with the rest, the whole follows a

pub record Adding (a b : TextOutput) (rest whole : Text) : Type 0 where
  pub ends : (z : TextOutput) → Added b z rest → Added a z whole

pub adding_starts : (a : TextOutput) (whole : Text) → Adding a a whole whole
adding_starts a whole = record { ends = λ z p. p }

pub adding_as : (a b : TextOutput) (rest other whole : Text) → rest ≡ other →
    Adding a b rest whole → Adding a b other whole
adding_as a b rest other whole e w = subst (λ t. Adding a b t whole) e w

pub adding_later : (a b c : TextOutput) (xs ys rest whole : Text) →
    rest ≡ xs ++ ys → Adding a b rest whole → Added b c xs → Adding a c ys whole
adding_later a b c xs ys rest whole e w p =
    record { ends = λ z q. w.ends z (added_two b c z xs ys rest p q (sym e)) }

pub adding_ends : (a b : TextOutput) (rest whole : Text) → rest ≡ [] →
    Adding a b rest whole → Added a b whole
adding_ends a b rest whole e w =
    w.ends b (added_as b b [] rest (added_nothing b) (sym e))

-- ---- character by character, or byte by byte

pub mapped_next : (f : ℕ → Text) (t rest : Text) (c : ℕ) → t ≡ c ∷ rest → flat_map f t ≡ f c ++ flat_map f rest
mapped_next f t rest c e = ap (flat_map f) e

pub mapped_end : (f : ℕ → Text) (t : Text) → t ≡ [] → flat_map f t ≡ []
mapped_end f t e = ap (flat_map f) e

pub mapped_at : (f : ℕ → Text) (bs : List ℕ) (i : ℕ) → i < length bs →
    flat_map f (drop i bs) ≡ f (get_or bs i 0) ++ flat_map f (drop (i + 1) bs)
mapped_at f bs i h = rw add-one (ap (flat_map f) (drop-cons bs i 0 h))

-- ---- a text of ASCII characters

pub last_ascii : {X E : Type 0} (r : Result X E) (a b : TextOutput) (bs : List ℕ) →
    list_all (λ b. nat_lt b 128) bs ≡ true → OnOk r (Added a b (chars bs)) → OnOk r (Added a b bs)
last_ascii r a b bs h p = last_as r a b (chars bs) bs p (chars-IsAscii bs (ascii bs h))

-- ---- what was pushed to the string

pub text_pushed : {X E : Type 0} (r : Result X E) (a b : TextOutput) (w : Text) →
    text_of b.text ≡ (if is_ok r then text_of a.text ++ w else text_of a.text) → OnOk r (Added a b w)
text_pushed (Ok v) a b w e = record { after = e }
text_pushed (Err v) a b w e = tt

pub text_added : {X E : Type 0} (r : Result X E) (a b : TextOutput) (w : Text) →
    OnOk r (text_of b.text ≡ text_of a.text ++ w) → OnOk r (Added a b w)
text_added (Ok v) a b w e = record { after = e }
text_added (Err v) a b w e = tt
