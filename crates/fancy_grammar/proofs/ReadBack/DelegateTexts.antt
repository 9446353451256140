-- A Delegate's text is read before any text as it is read by itself.
use Rattle.std.proofs.Common.{◌≡◌, ◌≢◌, ℕ, Bool, true, false, ◌==◌, [], ◌∷◌, ◌++◌, is_some, unwrap_or, ◌⊎◌, inl, inr}
use Rattle.std.proofs.Common.{refl, sym, ap, ◌∙◌, subst, append-nil, ne_eqb}
use Rattle.std.proofs.lemmas.Bool.{cases_eq, cond_both, false≢true}
use Prim.Native.Char.{code}
use Rattle.fancy_lex.specs.Class.{class}
use Rattle.fancy_lex.specs.Escape.{escape}
use Rattle.fancy_lex.specs.Escaped as escaped
use Rattle.fancy_lex.specs.Escaped.{Escape}
use Rattle.fancy_lex.specs.Reading.{Reading, gives, fails}
use Rattle.fancy_lex.specs.Text.{Text}
use Rattle.fancy_grammar.specs.AtomStart.{read, leaf_node, leaf_outcome}
use Rattle.fancy_grammar.specs.State.{State, Outcome}
use Rattle.fancy_grammar.specs.Tree.{Tree, delegate}
use Rattle.fancy_grammar.specs.Normal.{case_flags, unicode_flags, whole_of, whole_leaf, class_of, normal}
use Rattle.fancy_grammar.proofs.ReadBack.CarriedLaws.{class_carries, escape_carries}
use Rattle.fancy_grammar.proofs.ReadBack.RuleLemmas.{st, AtomAs, reads_leaf, leaf_at}
use Rattle.fancy_grammar.proofs.ReadBack.ShapeLemmas.{DelegateText}
use Rattle.fancy_grammar.proofs.ReadBack.LeafLemmas.{begins_by}

abbrev pub IsDelegate : Tree → Type 0
IsDelegate (delegate w i) = Unit {0}
IsDelegate _ = ⊥

whole_is : (s : Text) (t : Tree) → is_some (whole_of s t) ≡ true → (s ≡ []) × IsDelegate t
whole_is [] (delegate w i) h = (refl, tt)
whole_is [] _ h = absurd (false≢true h)
whole_is (c ∷ s) t h = absurd (false≢true h)

-- ---- a class

bracket_whole : (s : State) (o : Reading Text) →
    is_some (whole_leaf (leaf_outcome (λ w. delegate w false) s o)) ≡ true → (w : Text) × (o ≡ gives w [])
bracket_whole s (gives w v) h = (w, ap (gives w) (whole_is v (delegate w false) h).0)
bracket_whole s (fails e) h = absurd (false≢true h)

pub bracket_read : (t : Text) → is_some (class_of (unicode_flags false) (code "[" ∷ t)) ≡ true →
    (w : Text) × (class (unicode_flags false) t ≡ gives w [])
unfolding class_of
bracket_read t h = bracket_whole (st (unicode_flags false) (code "[" ∷ t)) _ h

pub bracket_normal : (u i : Bool) (t x : Text) →
    class (case_flags u i) (t ++ []) ≡ gives x [] →
    normal u (delegate (code "[" ∷ t) i) ≡ delegate x i
unfolding class_of
bracket_normal u i t x e =
    ap (λ o. unwrap_or (whole_leaf (leaf_outcome (λ w. delegate w i) (st (case_flags u i) (code "[" ∷ t)) o))
    (delegate (code "[" ∷ t) i))
    (ap (class (case_flags u i)) (sym (append-nil t)) ∙ e)

bracket_atom : (d : ℕ) (u i : Bool) (t x v : Text) → class (case_flags u i) (t ++ v) ≡ gives x v →
    AtomAs d (case_flags u i) (code "[" ∷ (t ++ v)) v (delegate x i)
bracket_atom d u i t x v e =
    let g = case_flags u i in
    reads_leaf d g (code "[" ∷ (t ++ v)) v (delegate x i)
    (leaf_at d g (code "[") (t ++ v) refl refl
    ∙ ap (λ o. read (leaf_outcome (λ w. delegate w i) (st g (code "[" ∷ (t ++ v))) o)) e)
    (record { is = λ n u c. refl; groups = tt })

bracket_text : (t : Text) → is_some (class_of (unicode_flags false) (code "[" ∷ t)) ≡ true → DelegateText (code "[" ∷ t)
bracket_text t h =
    let (w, e) = bracket_read t h in
    record {
      reads = λ d u i v.
          let (x, same) = class_carries u i t w [] e in
          subst (AtomAs d (case_flags u i) (code "[" ∷ (t ++ v)) v)
          (sym (bracket_normal u i t x (same []))) (bracket_atom d u i t x v (same v));
      begins = λ v. begins_by refl refl refl;
    }

-- ---- a class escape

escape_delegate : (s : State) (e : Escape) (v : Text) → v ≡ [] → IsDelegate (leaf_node e) →
    (w : Text) × (b : Bool) × (◌≡◌ {A = Reading Escape} (gives e v) (gives (escaped.delegate w b) []))
escape_delegate s (escaped.delegate w b) v z h = (w, b, ap (gives (escaped.delegate w b)) z)
escape_delegate s _ v z h = absurd h

escape_whole : (s : State) (o : Reading Escape) → is_some (whole_leaf (leaf_outcome leaf_node s o)) ≡ true →
    (w : Text) × (b : Bool) × (o ≡ gives (escaped.delegate w b) [])
escape_whole s (gives e v) h = let (z, d) = whole_is v (leaf_node e) h in escape_delegate s e v z d
escape_whole s (fails e) h = absurd (false≢true h)

pub escape_read : (t : Text) → is_some (class_of (unicode_flags false) (code "\\" ∷ t)) ≡ true
    → (w : Text) × (b : Bool)
    × (escape (unicode_flags false) false t ≡ gives (escaped.delegate w b) [])
unfolding class_of
escape_read t h = escape_whole (st (unicode_flags false) (code "\\" ∷ t)) _ h

pub escape_normal : (u i : Bool) (t x : Text) (b : Bool) →
    escape (case_flags u i) false (t ++ []) ≡ gives (escaped.delegate x b) []
    → normal u (delegate (code "\\" ∷ t) i) ≡ delegate x b
unfolding class_of
escape_normal u i t x b e =
    ap (λ o. unwrap_or (whole_leaf (leaf_outcome leaf_node (st (case_flags u i) (code "\\" ∷ t)) o))
    (delegate (code "\\" ∷ t) i))
    (ap (escape (case_flags u i) false) (sym (append-nil t)) ∙ e)

escape_atom : (d : ℕ) (u i : Bool) (t x v : Text) (b : Bool) →
    escape (case_flags u i) false (t ++ v) ≡ gives (escaped.delegate x b) v
    → AtomAs d (case_flags u i) (code "\\" ∷ (t ++ v)) v (delegate x b)
escape_atom d u i t x v b e =
    let g = case_flags u i in
    reads_leaf d g (code "\\" ∷ (t ++ v)) v (delegate x b)
    (leaf_at d g (code "\\") (t ++ v) refl refl
    ∙ ap (λ o. read (leaf_outcome leaf_node (st g (code "\\" ∷ (t ++ v))) o)) e)
    (record { is = λ n u c. refl; groups = tt })

escape_text : (t : Text) → is_some (class_of (unicode_flags false) (code "\\" ∷ t)) ≡ true →
    DelegateText (code "\\" ∷ t)
escape_text t h =
    let (w, b, e) = escape_read t h in
    record {
      reads = λ d u i v.
          let (x, c, same) = escape_carries u i t w [] b e in
          subst (AtomAs d (case_flags u i) (code "\\" ∷ (t ++ v)) v)
          (sym (escape_normal u i t x c (same [])))
          (escape_atom d u i t x v c (same v));
      begins = λ v. begins_by refl refl refl;
    }

-- what is no Delegate is still no Delegate if text is left
pub other_left : (r : Tree) (v : Text) → false ≡ is_some (whole_of [] r) → false ≡ is_some (whole_of v r)
other_left r [] other = other
other_left r (c ∷ v) other = refl

-- what begins with another character is no Delegate
pub no_other : (c : ℕ) (t : Text) → (c == code "[") ≡ false → (c == code "\\") ≡ false →
    false ≡ is_some (class_of (unicode_flags false) (c ∷ t))
unfolding class_of
no_other c t a b =
    let NoDelegate : Outcome Tree → Type 0 = λ o. false ≡ is_some (whole_leaf o) in
    cond_both (c == code ".") _ _ NoDelegate (λ _. other_left _ t refl) (λ _.
    cond_both (c == code "^") _ _ NoDelegate (λ _. other_left _ t refl) (λ _.
    cond_both (c == code "$") _ _ NoDelegate (λ _. other_left _ t refl) (λ _. rw (b, a) (other_left _ t refl))))

pub nothing_whole : false ≡ is_some (class_of (unicode_flags false) [])
unfolding class_of
nothing_whole = refl

-- what holds for the text by itself holds before any text, with UNICODE and without
pub delegate_text : (s : Text) → is_some (class_of (unicode_flags false) s) ≡ true → DelegateText s
delegate_text [] h = absurd (false≢true (nothing_whole ∙ h))
delegate_text (c ∷ t) h = by_bracket (cases_eq c (code "[")) where
  by_escape : (c ≢ code "[") → (c ≡ code "\\") ⊎ (c ≢ code "\\") → DelegateText (c ∷ t)
  by_escape a (inl e) =
      subst (λ x. DelegateText (x ∷ t)) (sym e)
      (escape_text t (subst (λ x. is_some (class_of (unicode_flags false) (x ∷ t)) ≡ true) e h))
  by_escape a (inr b) = absurd (false≢true (no_other c t (ne_eqb c (code "[") a) (ne_eqb c (code "\\") b) ∙ h))

  by_bracket : (c ≡ code "[") ⊎ (c ≢ code "[") → DelegateText (c ∷ t)
  by_bracket (inl e) =
      subst (λ x. DelegateText (x ∷ t)) (sym e)
      (bracket_text t (subst (λ x. is_some (class_of (unicode_flags false) (x ∷ t)) ≡ true) e h))
  by_bracket (inr a) = by_escape a (cases_eq c (code "\\"))
