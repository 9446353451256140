-- What references name when they are read: numbers that fit in a word, distances and levels that can be written, and
-- names that a call can be written with.
use Rattle.std.proofs.Common.{◌≡◌, ℕ, zero, suc, ◌<◌, ◌^◌, ◌==◌, Bool, true, false, ◌&&◌, [], ◌∷◌}
use Rattle.std.proofs.Common.{Option, Some, None, IfSome, option_map, nat_lt, ℤ, pos, refl, subst, arith}
use Rattle.std.specs.Prelude.{neg_ℤ, unwrap_or}
use Rattle.std.specs.Option.{option_and_then}
use Rattle.std.specs.Ordering.{int_eq}
use Rattle.std.proofs.lemmas.Bool.{cond_both}
use Rattle.std.proofs.lemmas.Bool.Decides.{nat_tests}
use Prim.Native.Char.{code}
use Rattle.fancy_lex.proofs.ReadingLemmas.{choose_both}
use Rattle.fancy_lex.proofs.ReferencePositions.{IfGives, named_at}
use Rattle.fancy_lex.specs.Characters.{◌∈◌}
use Rattle.fancy_lex.specs.Delimited.{name_before, delimited_name, of_name}
use Rattle.fancy_lex.specs.EscapeReference.{group_number, numbered_reference, back_reference, call_target, written_call}
use Rattle.fancy_lex.specs.EscapeReference.{delimited_call, numbered_call, subroutine_call, relative_target}
use Rattle.fancy_lex.specs.EscapeReference.{is_relative}
use Rattle.fancy_lex.specs.Id.{id}
use Rattle.fancy_lex.specs.IdReference.{IdReference, id_alone, id_and_amount, amount_alone, id_reference, amount}
use Rattle.fancy_lex.specs.IdReference.{amount_bound, small_amount, with_sign, with_id, without_id}
use Rattle.fancy_lex.specs.Reading.{choose}
use Rattle.fancy_lex.specs.Number.{at_digit, number}
use Rattle.fancy_lex.specs.NumberText.{number_text, whole_number, number_alone, is_nothing}
use Rattle.fancy_lex.specs.Referred.{Reference, Call, call_to, reference_of, written_reference}
use Rattle.fancy_lex.specs.Referred.{name_reading, reference_by_name, target_of_name}
use Rattle.fancy_lex.specs.Target.{Target, by_number, by_name, relative}
use Rattle.fancy_lex.specs.Text.{Text, reach_of, strip}
use Rattle.fancy_lex.specs.GroupReference.{named_reference, named_call, condition_target, condition_name, call_of}
use Rattle.fancy_grammar.proofs.Writable.{IsLevelWritable, IsNameWritable}
use Rattle.fancy_pattern.proofs.Parsed.Readers.{gives_both, IsFreeOf, IfNameFree, before_free, angled_writable}
use Rattle.fancy_pattern.proofs.Parsed.Readers.{quoted_writable}

-- ---- what holds for targets

-- a call with the name is between delimiters, if the name is no distance and can be written so, or in `(?P>` and `)`
pub data IsCalledBy (w : Text) : Type 0 where
  between : is_relative w ≡ false → IsNameWritable w → IsCalledBy w
  in_parens : IsFreeOf (code ")") w → IsCalledBy w

abbrev pub IsWord : ℕ → Type 0
IsWord n = n < 2 ^ 64

-- what a call names
abbrev pub IsCallRead : Target → Type 0
IsCallRead (by_number n) = IsWord n
IsCallRead (by_name w) = (number_text w ≡ None) × IsCalledBy w
IsCallRead (relative z) = IsLevelWritable z

-- what another reference names
abbrev pub IsTargetRead : Target → Type 0
IsTargetRead (by_number n) = IsWord n
IsTargetRead (by_name w) = number_text w ≡ None
IsTargetRead (relative z) = IsLevelWritable z

-- with its level
abbrev pub IsReferenceRead : Reference → Type 0
IsReferenceRead r = IsTargetRead r.target × IfSome r.level IsLevelWritable

-- ---- numbers and amounts

abbrev IfWord : Option ℕ → Type 0
IfWord o = IfSome o IsWord

pub both_right : (a b : Bool) → (a && b) ≡ true → b ≡ true
both_right true b e = e
both_right false b e = absurd cc

whole_word : (t : Text) → IfWord (whole_number t)
unfolding whole_number
whole_word t = by_number (number t)
  where
    by_number : (o : Option (ℕ × Text)) → IfWord (option_and_then number_alone o)
    by_number None = tt
    by_number (Some p) =
        cond_both (is_nothing p.1 && nat_lt p.0 (2 ^ 64)) _ _ IfWord
        (λ e. let less = both_right (is_nothing p.1) (nat_lt p.0 (2 ^ 64)) e in grind (arith, nat_tests, less))
        (λ _. tt)

text_word : (w : Text) → IfWord (number_text w)
unfolding number_text
text_word w = whole_word (unwrap_or (strip (code "+") w) w)

abbrev IfLevel : Option ℤ → Type 0
IfLevel o = IfSome o IsLevelWritable

negated_level : (n : ℕ) → n < amount_bound → IsLevelWritable (neg_ℤ (pos n))
negated_level zero h = h
negated_level (suc n) h = omega (arith, h)

signed_level : (sign n : ℕ) → n < amount_bound → IsLevelWritable (with_sign sign n)
signed_level sign n h = cond_both (sign == code "-") _ _ IsLevelWritable (λ _. negated_level n h) (λ _. h)

amount_level : (t : Text) → IfLevel (amount t)
unfolding amount
amount_level [] = tt
amount_level (c ∷ t) = cond_both (c ∈ "+-") _ _ IfLevel (λ _. by_number (whole_number t)) (λ _. tt)
  where
    by_number : (o : Option ℕ) → IfLevel (option_and_then (small_amount c) o)
    by_number None = tt
    by_number (Some n) =
        cond_both (nat_lt n amount_bound) _ _ IfLevel
        (λ e. signed_level c n (grind (arith, nat_tests, e))) (λ _. tt)

-- ---- id references

abbrev IsIdRead : IdReference → Type 0
IsIdRead (id_alone w) = Unit {0}
IsIdRead (id_and_amount w z) = IsLevelWritable z
IsIdRead (amount_alone z) = IsLevelWritable z

abbrev IfId : Option IdReference → Type 0
IfId o = IfSome o IsIdRead

id_read : (amounts : Bool) (t : Text) → IfId (id_reference amounts t)
unfolding id_reference
id_read amounts t =
    choose_both IfId (id t) (λ q. with_id amounts q.0 q.1) _ (λ q _. after_id q.0 q.1)
    (cond_both amounts _ _ IfId (λ _. alone (amount t) (amount_level t)) (λ _. tt))
  where
    with_amount : (i : Text) (o : Option ℤ) → IfLevel o → IfId (option_map (id_and_amount i) o)
    with_amount i None h = tt
    with_amount i (Some z) h = h

    after_id : (i v : Text) → IfId (with_id amounts i v)
    after_id i [] = tt
    after_id i (c ∷ v) =
        cond_both amounts _ _ IfId (λ _. with_amount i (amount (c ∷ v)) (amount_level (c ∷ v))) (λ _. tt)

    alone : (o : Option ℤ) → IfLevel o → IfId (option_and_then without_id o)
    alone None h = tt
    alone (Some z) h = cond_both (int_eq z (pos zero)) _ _ IfId (λ _. tt) (λ _. h)

target_read : (w : Text) → IsTargetRead (target_of_name w)
unfolding target_of_name
target_read w = by_text (number_text w) refl (text_word w)
  where
    by_text : (o : Option ℕ) → number_text w ≡ o → IfWord o → IsTargetRead (choose o by_number (by_name w))
    by_text None e h = e
    by_text (Some n) e h = h

reference_read : (p : ℕ) (i : IdReference) → IsIdRead i → IsReferenceRead (reference_of p i)
unfolding reference_of
reference_read p (id_alone w) h = (target_read w, tt)
reference_read p (id_and_amount w z) h = (target_read w, h)
reference_read p (amount_alone z) h = (h, tt)

named_read : (p : ℕ) (amounts : Bool) (o : Option (Text × Text)) →
    IfGives IsReferenceRead (reference_by_name p amounts o)
unfolding reference_by_name written_reference
named_read p amounts o = named_at p IsReferenceRead (written_reference p amounts) o written
  where
    written : (w : Text) (r : Reference) → written_reference p amounts w ≡ Some r → IsReferenceRead r
    written w r e = by_id (id_reference amounts w) (id_read amounts w) e
      where
        by_id : (i : Option IdReference) → IfId i → option_map (reference_of p) i ≡ Some r → IsReferenceRead r
        by_id None h e = absurd cc
        by_id (Some i) h e =
            let same : reference_of p i ≡ r = cc in subst IsReferenceRead same (reference_read p i h)

-- ---- references

group_word : (t : Text) → IfGives IsWord (group_number t)
unfolding group_number
group_word t =
    choose_both (IfGives IsWord) (number t) _ _ (λ q _.
    cond_both (nat_lt q.0 (2 ^ 64)) _ _ (IfGives IsWord) (λ e. grind (arith, nat_tests, e)) (λ _. tt)) tt

pub numbered_reference_read : (t : Text) → IfGives IsReferenceRead (numbered_reference t)
unfolding numbered_reference
numbered_reference_read t =
    gives_both IsWord IsReferenceRead (group_number t) _ (group_word t) (λ k u h. (h, tt))

pub back_reference_read : (t : Text) → IfGives IsReferenceRead (back_reference t)
unfolding back_reference
back_reference_read t = named_read (reach_of t) true (delimited_name t)

pub named_reference_read : (t : Text) → IfGives IsReferenceRead (named_reference t)
unfolding named_reference
named_reference_read t = named_read (reach_of t) false (name_before (code ")") t)

-- without amounts there is no level
pub named_reference_plain : (t : Text) → IfGives (λ (r : Reference). r.level ≡ None) (named_reference t)
unfolding named_reference reference_by_name written_reference id_reference reference_of
named_reference_plain t =
    named_at (reach_of t) IsPlain (written_reference (reach_of t) false) (name_before (code ")") t)
    (λ w r e. by_id (id w) e)
  where
    IsPlain : Reference → Type 0
    IsPlain r = r.level ≡ None

    alone : (i v : Text) (r : Reference) → option_map (reference_of (reach_of t)) (with_id false i v) ≡ Some r →
        IsPlain r
    alone i [] r e = let same : reference_of (reach_of t) (id_alone i) ≡ r = cc in subst IsPlain same refl
    alone i (c ∷ v) r e = absurd cc

    by_id : (o : Option (Text × Text)) {r : Reference} →
        option_map (reference_of (reach_of t)) (choose o (λ q. with_id false q.0 q.1) None) ≡ Some r → IsPlain r
    by_id None e = absurd cc
    by_id (Some q) {r} e = alone q.0 q.1 r e

pub condition_target_read : (t : Text) → IfGives IsReferenceRead (condition_target t)
unfolding condition_target
condition_target_read t = named_read (reach_of t) true (condition_name t)

-- ---- calls

abbrev IsCall : Call → Type 0
IsCall c = IsCallRead c.target

called_read : (w : Text) → IsCalledBy w → IsCallRead (target_of_name w)
unfolding target_of_name
called_read w k = by_text (number_text w) refl (text_word w)
  where
    by_text : (o : Option ℕ) → number_text w ≡ o → IfWord o → IsCallRead (choose o by_number (by_name w))
    by_text None e h = (e, k)
    by_text (Some n) e h = h

call_target_read : (w : Text) → IsNameWritable w → IfSome (call_target w) IsCallRead
unfolding call_target
call_target_read w h =
    cond_both (is_relative w) _ _ (λ o. IfSome o IsCallRead) (λ _. by_id (id_reference true w) (id_read true w))
    (λ e. called_read w (between e h))
  where
    by_id : (o : Option IdReference) → IfId o → IfSome (option_and_then relative_target o) IsCallRead
    by_id None h = tt
    by_id (Some (id_alone v)) h = tt
    by_id (Some (id_and_amount v z)) h = tt
    by_id (Some (amount_alone z)) h = h

abbrev pub IfNamed : Option (Text × Text) → Type 0
IfNamed o = IfSome o (λ q. IsNameWritable q.0)

pub delimited_writable : (t : Text) → IfNamed (delimited_name t)
unfolding delimited_name
delimited_writable [] = tt
delimited_writable (c ∷ t) =
    cond_both (c == code "<") _ _ IfNamed (λ _. by_angle (name_before (code ">") t) (before_free (code ">") t)) (λ _.
    cond_both (c == code "'") _ _ IfNamed (λ _. by_quote (name_before (code "'") t) (before_free (code "'") t))
    (λ _. tt))
  where
    by_angle : (o : Option (Text × Text)) → IfNameFree (code ">") o → IfNamed o
    by_angle None h = tt
    by_angle (Some (w, u)) h = angled_writable w h

    by_quote : (o : Option (Text × Text)) → IfNameFree (code "'") o → IfNamed o
    by_quote None h = tt
    by_quote (Some (w, u)) h = quoted_writable w h

delimited_call_read : (p : ℕ) (t : Text) → IfGives IsCall (name_reading p (delimited_call p t))
unfolding delimited_call written_call
delimited_call_read p t = by_name (delimited_name t) (delimited_writable t)
  where
    by_target : (u : Text) (o : Option Target) → IfSome o IsCallRead →
        IfGives IsCall (name_reading p (option_map (λ (a : Call). (a, u)) (option_map (call_to p) o)))
    by_target u None h = tt
    by_target u (Some g) h = h

    by_name : (o : Option (Text × Text)) → IfNamed o → IfGives IsCall (name_reading p (of_name (written_call p) o))
    by_name None h = tt
    by_name (Some (w, u)) h = by_target u (call_target w) (call_target_read w h)

pub subroutine_call_read : (t : Text) → IfGives IsCall (subroutine_call t)
unfolding subroutine_call numbered_call
subroutine_call_read t =
    cond_both (at_digit t) _ _ (IfGives IsCall)
    (λ _. gives_both IsWord IsCall (group_number t) _ (group_word t) (λ k u h. h))
    (λ _. delimited_call_read (reach_of t) t)

pub named_call_read : (t : Text) → IfGives IsCall (named_call t)
unfolding named_call
named_call_read t = by_name (name_before (code ")") t) (before_free (code ")") t)
  where
    by_name : (o : Option (Text × Text)) → IfNameFree (code ")") o →
        IfGives IsCall (name_reading (reach_of t) (of_name (call_of (reach_of t)) o))
    by_name None h = tt
    by_name (Some (w, u)) h = called_read w (in_parens h)
