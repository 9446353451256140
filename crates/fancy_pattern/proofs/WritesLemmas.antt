-- Writers one after the other, and writers in groups.
use Rattle.std.proofs.Common.{◌≡◌, ℕ, Bool, List, [], ◌∷◌, ◌++◌, subst, append_assoc}
use Rattle.std.proofs.Common.{sym, ◌∙◌, codes}
use Rattle.std.specs.Prelude.{Result, Ok, Err, IfOk, OnOk}
use Rattle.std.proofs.lemmas.Result.{IfOk-weaker, on_ok_weaker}
use Rattle.fancy_lex.specs.Text.{Text, text_of, bytes}
use Rattle.fancy_grammar.specs.Pattern.{Context, deeper, in_parens}
use Rattle.fancy_grammar.specs.declared.needs.Needs.{Needs}
use Rattle.fancy_pattern.specs.TextOutput.{Added, Changed}
use Rattle.fancy_pattern.specs.ContextViews.{Known, IsContext}
use Rattle.fancy_pattern.specs.Writers.{Writes, Moves, Passes, Leaves}
use Rattle.fancy_pattern.specs.declared.context.Context as code
use Rattle.fancy_pattern.specs.declared.output.TextOutput.{TextOutput}
use Rattle.fancy_pattern.proofs.OutputLemmas.{added_nothing, added_as, then_added}

-- the flags that a text does not set stay as they are
abbrev pub KeepsMode : (Context → Context) → Type 0
KeepsMode next = (h : Context) → (next h).flags.oniguruma_mode ≡ h.flags.oniguruma_mode

-- if P holds after a success, so does Q, which follows from it
pub on_then : {X E : Type 0} (r : Result X E) (P Q : Type 0) → OnOk r P → (P → Q) → OnOk r Q
on_then r P Q p f = on_ok_weaker r f p

-- and so do both, if Q holds anyway
pub on_both : {X E : Type 0} (r : Result X E) (P Q : Type 0) → OnOk r P → Q → OnOk r (P × Q)
on_both r P Q p q = on_ok_weaker r (λ x. (x, q)) p

-- if P holds of the value, so does Q, which follows from it
pub ok_then : {X E : Type 0} (r : Result X E) (P Q : X → Type 0) → IfOk r P → ((x : X) → P x → Q x) → IfOk r Q
ok_then r P Q p f = IfOk-weaker r P Q f p

pub nothing_writes : (a : TextOutput) (i : code.Context) → Writes a a i i (λ o. []) (λ h. []) (λ h. h)
nothing_writes a i = record { writes = λ s h l is. (added_nothing a, is) }

-- a text that does not depend on the position
pub text_writes : (a b : TextOutput) (i : code.Context) (xs : Text) → Added a b xs →
    Writes a b i i (λ o. []) (λ h. xs) (λ h. h)
text_writes a b i xs p = record { writes = λ s h l is. (p, is) }

pub then_writes : (a b c : TextOutput) (i j k : code.Context) (l1 l2 : Bool → List Needs) (t1 t2 : Context → Text)
    (n1 n2 : Context → Context) → KeepsMode n1 → Writes a b i j l1 t1 n1 → Writes b c j k l2 t2 n2 →
    Writes a c i k (λ o. l1 o ++ l2 o) (λ h. t1 h ++ t2 (n1 h)) (λ h. n2 (n1 h))
then_writes a b c i j k l1 l2 t1 t2 n1 n2 mode p q = record {
  writes = λ s h l is.
      let o = h.flags.oniguruma_mode in
      let one = p.writes s h (l2 o ++ l) (subst (IsContext s i h) (append_assoc (l1 o) (l2 o) l) is) in
      let two = q.writes s (n1 h) l (subst (λ m. IsContext s j (n1 h) (l2 m ++ l)) (sym (mode h)) one.1) in
      (then_added a b c (t1 h) (t2 (n1 h)) one.0 two.0, two.1);
}

pub writes_as : (a b : TextOutput) (i j : code.Context) (l k : Bool → List Needs) (t u : Context → Text)
    (n m : Context → Context) →
    Writes a b i j l t n → ((o : Bool) → l o ≡ k o) → ((h : Context) → t h ≡ u h) → ((h : Context) → n h ≡ m h) →
    Writes a b i j k u m
writes_as a b i j l k t u n m p el et en = record {
  writes = λ s h r is.
      let o = h.flags.oniguruma_mode in
      let done = p.writes s h r (subst (λ x. IsContext s i h (x ++ r)) (sym (el o)) is) in
      (added_as a b (t h) (u h) done.0 (et h), subst (λ x. IsContext s j x r) (en h) done.1);
}

-- a text whose characters depend on the position
pub positioned_writes : (a b : TextOutput) (i : code.Context) (t : Context → Text) →
    ((s : Known) (h : Context) (l : List Needs) → IsContext s i h l → Added a b (t h)) →
    Writes a b i i (λ o. []) t (λ h. h)
positioned_writes a b i t p = record { writes = λ s h l is. (p s h l is, is) }

pub on_positioned : {X E : Type 0} (r : Result X E) (a b : TextOutput) (i : code.Context) (t : Context → Text) →
    ((s : Known) (h : Context) (l : List Needs) → IsContext s i h l → OnOk r (Added a b (t h))) →
    OnOk r (Writes a b i i (λ o. []) t (λ h. h))
on_positioned (Ok x) a b i t p = positioned_writes a b i t p
on_positioned (Err e) a b i t p = tt

-- a node is passed for which nothing is written
pub past_writes : (a b : TextOutput) (i j k : code.Context) (d : Bool → Needs) (l : Bool → List Needs) (t : Context → Text)
    (n : Context → Context) → Passes i j → Writes a b j k l t n → Writes a b i k (λ o. d o ∷ l o) t n
past_writes a b i j k d l t n past p = record {
  writes = λ s h r is. p.writes s h r (past s h (d h.flags.oniguruma_mode) (l h.flags.oniguruma_mode ++ r) is);
}

-- the added text is changed
pub change_added : (a b c : TextOutput) (position : ℕ) (change : Text → Text) (u : Text) →
    position ≡ bytes (text_of a.text) → Added a b u → Changed b c position change →
    Added a c (change u)
change_added a b c position change u at p q = record {
  after = q.changes (text_of a.text) u p.after at;
}

pub changed_writes : (a b c : TextOutput) (i j : code.Context) (position : ℕ) (change : Text → Text) (l : Bool → List Needs)
    (t : Context → Text) (n : Context → Context) → position ≡ bytes (text_of a.text) →
    Writes a b i j l t n → Changed b c position change → Writes a c i j l (λ h. change (t h)) n
changed_writes a b c i j position change l t n at p q = record {
  writes = λ s h r is. let done = p.writes s h r is in (change_added a b c position change (t h) at done.0 q, done.1);
}

-- in the parentheses of a group
pub parens_writes : (a b c d : TextOutput) (i j k e : code.Context) (opening : Text) (l : Bool → List Needs) (t : Context → Text)
    (n : Context → Context) → Added a b (codes "(" ++ opening) → Moves i j deeper → Writes b c j k l t n →
    Added c d (codes ")") → Leaves i k e →
    Writes a d i e l (in_parens opening t) (λ h. record h { opened = (n (deeper h)).opened })
parens_writes a b c d i j k e opening l t n opens at p closes out = record {
  writes = λ s h r is.
      let done = p.writes s (deeper h) r (at s h (l h.flags.oniguruma_mode ++ r) is) in
      let two = then_added a b c (codes "(" ++ opening) (t (deeper h)) opens done.0 in
      let all = then_added a c d ((codes "(" ++ opening) ++ t (deeper h)) (codes ")") two closes in (
        added_as a d _ _ all
            (append_assoc (codes "(" ++ opening) (t (deeper h)) (codes ")")
            ∙ append_assoc (codes "(") opening (t (deeper h) ++ codes ")")),
        out s h (n (deeper h)) (l h.flags.oniguruma_mode ++ r) r is done.1,
      );
}
