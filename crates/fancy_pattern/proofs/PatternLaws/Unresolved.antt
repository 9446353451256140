-- Calls that refer to no group are read as such calls again, at other positions.
use Rattle.std.proofs.Common.{◌≡◌, ℕ, suc, ◌+◌, ◌<◌, ◌&&◌, ◌||◌, not, true, false, [], ◌∷◌, ◌++◌, codes}
use Rattle.std.proofs.Common.{Option, Some, None, decimal, refl, sym, ap, ◌∙◌, subst, append_assoc, arith, pos, negsuc}
use Rattle.std.proofs.Math.Bool.{not-not}
use Rattle.std.proofs.lemmas.Bool.{cond_both}
use Rattle.std.specs.List.{starts_with}
use Rattle.std.specs.Prelude.{nat_eq}
use Prim.Native.Char.{code}
use Rattle.fancy_lex.specs.Characters.{is_among}
use Rattle.fancy_lex.specs.Delimited.{delimited_name, name_before}
use Rattle.fancy_lex.specs.Escape.{escape, escape_at, lone_escape, outside, call_escape}
use Rattle.fancy_lex.specs.EscapeReference.{is_relative, subroutine_call, delimited_call, written_call, call_target}
use Rattle.fancy_lex.specs.Escaped as escaped
use Rattle.fancy_lex.specs.NumberText.{number_text}
use Rattle.fancy_lex.specs.Reading.{gives}
use Rattle.fancy_lex.specs.Referred.{call_to, target_of_name}
use Rattle.fancy_lex.specs.Target.{Target, by_number, by_name, relative}
use Rattle.fancy_lex.specs.Text.{Text, reach_of}
use Rattle.fancy_lex.specs.declared.flags.Flags.{Flags}
use Rattle.fancy_lex.specs.GroupReference.{named_call}
use Rattle.fancy_grammar.specs.Meaning.{call, refers_to, unresolved}
use Rattle.fancy_grammar.specs.AtomStart.{read, leaf_node, leaf_outcome, call_node}
use Rattle.fancy_grammar.specs.Depth.{max_depth}
use Rattle.fancy_grammar.specs.Grammar.{atom, a_read}
use Rattle.fancy_grammar.specs.Label as label
use Rattle.fancy_grammar.specs.Label.{ast_call}
use Rattle.fancy_grammar.specs.GroupInfo.{GroupInfo}
use Rattle.fancy_grammar.specs.Pattern.{Context}
use Rattle.fancy_grammar.specs.PatternReference.{delimited, unresolved_text}
use Rattle.fancy_grammar.specs.ReadAs.{unpositioned}
use Rattle.fancy_grammar.specs.Resolved.{reference_node}
use Rattle.fancy_grammar.specs.Tree.{leaf, ast_node}
use Rattle.fancy_grammar.proofs.PatternDepth.{MayOpenIf}
use Rattle.fancy_grammar.proofs.Writable.{IsCalledTarget, is_called_in_parens}
use Rattle.fancy_pattern.proofs.PatternLaws.Becomes.{Becomes, info_numbers, AgreesWithInfo, RefersToGroup}
use Rattle.fancy_pattern.proofs.PatternLaws.Groups.{question_at, cut_before}
use Rattle.fancy_pattern.proofs.PatternLaws.Leaves.{LeafAt}
use Rattle.fancy_pattern.proofs.PatternLaws.Names.{delimited_read, call_read_by, named_by, distance_called, distance_delimited}
use Rattle.fancy_pattern.proofs.PatternLaws.References.{not_in_digits, begins_reference, reference_text, is_by_number}
use Rattle.fancy_pattern.proofs.PatternLaws.Rules.{begins_by, AtomAt}
use Rattle.fancy_grammar.proofs.ReadBack.RuleLemmas.{st, leaf_at}

-- ---- what is read

called_by : (w : Text) → is_relative w ≡ false → number_text w ≡ None → (p : ℕ) →
    written_call p w ≡ Some (call_to p (by_name w))
unfolding written_call call_target
called_by w h e p = rw (h, named_by w e) refl

quoted_read : (f : Flags) (c : ℕ) (u v : Text) (target : Target) → is_among (code "'") (c ∷ u) ≡ false →
    ((p : ℕ) → written_call p (c ∷ u) ≡ Some (call_to p target)) →
    escape f false (code "g" ∷ code "'" ∷ ((c ∷ u) ++ code "'" ∷ v))
    ≡ gives (escaped.subroutine_call (call_to (reach_of (code "'" ∷ ((c ∷ u) ++ code "'" ∷ v))) target)) v
unfolding escape_at lone_escape outside call_escape subroutine_call delimited_call delimited_name name_before
quoted_read f c u v target e h =
    rw (cut_before (code "'") (c ∷ u) v e, h (reach_of (code "'" ∷ ((c ∷ u) ++ code "'" ∷ v)))) refl

parens_read : (c : ℕ) (u v : Text) (target : Target) → is_among (code ")") (c ∷ u) ≡ false →
    target_of_name (c ∷ u) ≡ target →
    named_call ((c ∷ u) ++ code ")" ∷ v) ≡ gives (call_to (reach_of ((c ∷ u) ++ code ")" ∷ v)) target) v
unfolding named_call name_before
parens_read c u v target e h = rw (cut_before (code ")") (c ∷ u) v e, h) refl

-- ---- a call without a group

module _ (μ : GroupInfo) (h : Context) (t : Target) (position : ℕ) (none : is_by_number t ≡ false)
    (meant : refers_to (info_numbers μ) h.opened call t ≡ unresolved) where
  abbrev without : label.Leaf
  without = label.ast_node (ast_call t) position

  stays : (s : Text) (p : ℕ) → Becomes μ s h.opened (ast_node (ast_call t) p) (leaf without)
  stays s p = record {
    is =
        λ n u e. (λ i. unpositioned (reference_node n (refers_to (λ w. e w i) h.opened call t) (ast_call t) p))
        ∙ ap (λ m. unpositioned (reference_node n m (ast_call t) p)) meant;
    count = refl;
    groups = (
      subst RefersToGroup (sym meant) tt,
      subst (λ m. AgreesWithInfo μ s (ast_call t) m p) (sym meant)
          (not_in_digits μ s (ast_call t) unresolved p none refl refl),
      tt,
    );
  }

  in_delimiters : (w : Text) →
      ((v : Text) → ◌≡◌ {A = Option (Text × Text)} (delimited_name (code "<" ∷ (w ++ code ">" ∷ v))) (Some (w, v))) →
      ((p : ℕ) → written_call p w ≡ Some (call_to p t)) → LeafAt μ h (delimited (codes "\\g") w) without
  in_delimiters w name called = record {
    reads =
        λ v m _. let s = code "<" ∷ (w ++ code ">" ∷ v) in
        subst (λ z. AtomAt μ h (codes "\\g" ++ z) v (leaf without)) (sym (reference_text w v)) (record {
          tree = ast_node (ast_call t) (reach_of s);
          derives =
              atom
              (leaf_at h.depth h.flags (code "\\") (code "g" ∷ s) refl refl
              ∙ ap (λ o. read (leaf_outcome leaf_node (st h.flags (codes "\\g" ++ s)) o))
              (call_read_by h.flags w v t (name v) called))
              a_read;
          becomes = stays _ (reach_of s);
        });
    begins = λ v. begins_reference h.flags.ignore_space _;
  }

  in_quotes : (c : ℕ) (u : Text) → is_among (code "'") (c ∷ u) ≡ false →
      ((p : ℕ) → written_call p (c ∷ u) ≡ Some (call_to p t)) →
      LeafAt μ h (codes "\\g'" ++ ((c ∷ u) ++ codes "'")) without
  in_quotes c u e called = record {
    reads =
        λ v m _. let s = code "'" ∷ ((c ∷ u) ++ code "'" ∷ v) in
        subst (λ z. AtomAt μ h (codes "\\g'" ++ z) v (leaf without)) (sym (append_assoc (c ∷ u) (codes "'") v)) (record {
          tree = ast_node (ast_call t) (reach_of s);
          derives =
              atom
              (leaf_at h.depth h.flags (code "\\") (code "g" ∷ s) refl refl
              ∙ ap (λ o. read (leaf_outcome leaf_node (st h.flags (codes "\\g" ++ s)) o))
              (quoted_read h.flags c u v t e called))
              a_read;
          becomes = stays _ (reach_of s);
        });
    begins = λ v. begins_reference h.flags.ignore_space _;
  }

  in_parens : h.depth + 1 < max_depth → (c : ℕ) (u : Text) → is_among (code ")") (c ∷ u) ≡ false →
      target_of_name (c ∷ u) ≡ t → LeafAt μ h (codes "(?P>" ++ ((c ∷ u) ++ codes ")")) without
  in_parens l c u e named = record {
    reads =
        λ v m _. let s = (c ∷ u) ++ code ")" ∷ v in
        subst (λ z. AtomAt μ h (codes "(?P>" ++ z) v (leaf without)) (sym (append_assoc (c ∷ u) (codes ")") v)) (record {
          tree = ast_node (ast_call t) (reach_of s);
          derives =
              atom
              (question_at h.depth h.flags (codes "P>" ++ s) l
              ∙ ap (λ o. read (leaf_outcome call_node (st h.flags (codes "(?P>" ++ s)) o)) (parens_read c u v t e named))
              a_read;
          becomes = stays _ (reach_of s);
        });
    begins = λ v. begins_by h.flags.ignore_space (code "(") _ refl refl refl refl;
  }

-- if its text is a group, one may open
abbrev MayOpenFor : Context → Text → Type 0
MayOpenFor h s = MayOpenIf (starts_with nat_eq s (codes "(")) h

pub unresolved_at : (μ : GroupInfo) (h : Context) (t : Target) (position : ℕ) →
    MayOpenFor h (unresolved_text (ast_call t)) →
    IsCalledTarget t → refers_to (info_numbers μ) h.opened call t ≡ unresolved →
    LeafAt μ h (unresolved_text (ast_call t)) (label.ast_node (ast_call t) position)
unresolved_at μ h (by_number n) position l k meant = absurd k
unresolved_at μ h (relative (pos n)) position l k meant = absurd cc
unresolved_at μ h (relative (negsuc n)) position l k meant =
    let z = negsuc n in
    let same : suc n ≡ n + 1 = omega arith in
    subst
    (λ m. LeafAt μ h (delimited (codes "\\g") (code "-" ∷ decimal m)) (label.ast_node (ast_call (relative z)) position))
    same
    (in_delimiters μ h (relative z) position refl meant (code "-" ∷ decimal (suc n))
    (distance_delimited (code "-") n z refl (omega (arith, k)) refl refl)
    (distance_called (code "-") n z refl (omega (arith, k)) refl refl))
unresolved_at μ h (by_name []) position l k meant = absurd k
unresolved_at μ h (by_name (c ∷ u)) position l k meant =
    let w = c ∷ u in
    let P = λ (s : Text). MayOpenFor h s → LeafAt μ h s (label.ast_node (ast_call (by_name w)) position) in
    let parens : is_called_in_parens w ≡ true → P (codes "(?P>" ++ (w ++ codes ")"))
    = λ e l. in_parens μ h (by_name w) position refl meant (l refl) c u (k.1 e) (named_by w k.0) in
    cond_both (is_relative w) _ _ P (λ e. parens (ap (λ b. b || (is_among (code ">") w && is_among (code "'") w)) e))
    (λ e. cond_both (not (is_among (code ">") w)) _ _ P
    (λ q _. let no_delimiter : is_among (code ">") w ≡ false = sym (not-not (is_among (code ">") w)) ∙ ap not q in
    in_delimiters μ h (by_name w) position refl meant w (λ v. delimited_read c u v no_delimiter) (called_by w e k.0))
    (λ q. let delimiter : is_among (code ">") w ≡ true = sym (not-not (is_among (code ">") w)) ∙ ap not q in
    cond_both (not (is_among (code "'") w)) _ _ P
    (λ r _. let no_quote : is_among (code "'") w ≡ false = sym (not-not (is_among (code "'") w)) ∙ ap not r in
    in_quotes μ h (by_name w) position refl meant c u no_quote (called_by w e k.0))
    (λ r. let quote : is_among (code "'") w ≡ true = sym (not-not (is_among (code "'") w)) ∙ ap not r in
    parens ((λ i. e i || (delimiter i && quote i)))))) l
