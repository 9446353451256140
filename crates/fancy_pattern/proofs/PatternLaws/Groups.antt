-- Groups, and flags that are set.
use Rattle.fancy_pattern.proofs.PatternLaws.Rules.{lead_raw, BranchAt, Stops}
use Rattle.fancy_grammar.specs.Join.{is_empty, one_or}
use Rattle.fancy_grammar.specs.Tree.{concat}
use Rattle.fancy_grammar.specs.Grammar.{stop}
use Rattle.fancy_grammar.specs.Quantified.{is_repeatable}
use Rattle.fancy_grammar.specs.Pattern.{group_count}
use Rattle.fancy_pattern.proofs.PatternLaws.Rules.{ends_close, reads_only, reads_branch, no_more}
use Rattle.std.proofs.Common.{◌≡◌, ℕ, ◌+◌, ◌<◌, Bool, true, false, not, ◌&&◌, ◌||◌, ◌==◌, nat_le, List, [], ◌∷◌, ◌++◌}
use Rattle.std.proofs.Common.{codes, None, refl, sym, ap, ◌∙◌, subst, arith, append_assoc, if◌then◌else◌, Some, Option}
use Rattle.std.proofs.lemmas.Bool.{cond-false, or_parts, cond-true, cond_both}
use Rattle.std.proofs.lemmas.Bool.Decides.{nat_tests}
use Prim.Native.Char.{code}
use Rattle.fancy_lex.specs.LayoutSteps.{layout, rest}
use Rattle.fancy_lex.specs.Text.{Text, bytes, reach_of, cut_at, EndsWith}
use Rattle.fancy_lex.specs.declared.flags.Flags.{Flags}
use Rattle.fancy_grammar.specs.AtomStart.{of_kind, atom_start, error_start, group_start, after_question, named_start}
use Rattle.fancy_grammar.specs.Depth.{max_depth}
use Rattle.fancy_grammar.specs.Grammar.{Alternation, alternation, Branches, last, more, branch_error, Branch, branch}
use Rattle.fancy_grammar.specs.Grammar.{Pieces, next, atom, a_read, a_group, inside}
use Rattle.fancy_grammar.specs.Join.{join}
use Rattle.fancy_grammar.specs.GroupKind.{capture, flag_group, look, atomic, define, GroupKind}
use Rattle.fancy_grammar.specs.Label as label
use Rattle.fancy_grammar.specs.Label.{Wrap}
use Rattle.fancy_grammar.specs.GroupInfo.{GroupInfo}
use Rattle.fancy_grammar.specs.Pattern.{Context, under, past_groups, deeper, in_parens}
use Rattle.fancy_grammar.specs.PatternNeeds.{letters_between, inline_flags, turns_on}
use Rattle.fancy_grammar.specs.PatternReference.{name_opening}
use Rattle.fancy_grammar.specs.ReadAs.{unpositioned}
use Rattle.fancy_grammar.specs.State.{State, Outcome, done, failed, mapped}
use Rattle.fancy_grammar.specs.Tree.{Tree, over, empty, look_around, atomic_group, define_group, ast_group}
use Rattle.fancy_grammar.specs.declared.kinds.LookAround.{LookAround}
use Rattle.fancy_pattern.proofs.PatternLaws.Becomes.{Becomes, in_longer, AreGroups, IsOpening}
use Rattle.fancy_grammar.specs.Items.{items}
use Rattle.fancy_grammar.proofs.PatternDepth.{MayOpenIf, MaySet}
use Rattle.fancy_grammar.proofs.Writable.{IsNameWritable, name_at}
use Rattle.fancy_grammar.specs.Ranks.{is_counted}
use Rattle.std.proofs.Common.{length, suc}
use Rattle.fancy_pattern.proofs.PatternLaws.Letters.{changed, inline_flags_start, flag_group_start, no_hash}
use Rattle.fancy_pattern.proofs.PatternLaws.Rules.{Clear, Begins, begins_by, not_layout, no_question, no_star}
use Rattle.fancy_pattern.proofs.PatternLaws.Rules.{AtomAt, WholeAt, Rest, lead_flags, quants_one, quant_none}
use Rattle.fancy_grammar.proofs.OutcomeLemmas.{piece_as, after_rest}
use Rattle.fancy_grammar.proofs.ReadBack.RuleLemmas.{st}
use Rattle.fancy_grammar.proofs.Slices.{to_ends}
use Rattle.fancy_lex.specs.Characters.{◌∈◌, is_among}
use Rattle.fancy_lex.specs.Delimited.{name_before}
use Rattle.fancy_lex.specs.Reading.{gives}
use Rattle.fancy_lex.specs.GroupName.{group_name}
use Rattle.fancy_grammar.proofs.AtomStartLaws.{StartReads, start_reads}

-- ---- texts in parentheses

pub parens_text : (opening : Text) (text : Context → Text) (h : Context) (v : Text) →
    in_parens opening text h ++ v ≡ code "(" ∷ (opening ++ (text (deeper h) ++ code ")" ∷ v))
parens_text opening text h v =
    ap (λ w. code "(" ∷ w) (append_assoc opening _ v ∙ ap (λ w. opening ++ w) (append_assoc (text (deeper h)) _ v))

-- ---- the start of an atom

not_deep : (d : ℕ) → d + 1 < max_depth → nat_le max_depth (d + 1) ≡ false
not_deep d h = grind (arith, nat_tests)

pub paren_at : (d : ℕ) (f : Flags) (t : Text) → d + 1 < max_depth → layout f.ignore_space t ≡ rest t →
    atom_start d (st f (code "(" ∷ t)) ≡ group_start (st f (code "(" ∷ t)) t
unfolding atom_start
paren_at d f t l o = cond-false _ _ _ (not_deep d l) ∙ after_rest (group_start (st f (code "(" ∷ t))) error_start o

pub question_at : (d : ℕ) (f : Flags) (t : Text) → d + 1 < max_depth →
    atom_start d (st f (code "(" ∷ code "?" ∷ t)) ≡ after_question (st f (code "(" ∷ code "?" ∷ t)) t
question_at d f t l = paren_at d f (code "?" ∷ t) l (no_layout f.ignore_space)
  where
    no_layout : (x : Bool) → layout x (code "?" ∷ t) ≡ rest (code "?" ∷ t)
    no_layout true = not_layout true (code "?") t refl refl
    no_layout false = not_layout false (code "?") t refl refl

capture_start : (f : Flags) (s t : Text) → Clear f.ignore_space t →
    group_start (st f s) t ≡ of_kind (capture None) (st f t)
capture_start f s t c = rw (no_question t c.no_quantifier, no_star t c.no_quantifier) refl

pub capture_at : (d : ℕ) (f : Flags) (t : Text) → d + 1 < max_depth → Clear f.ignore_space t →
    atom_start d (st f (code "(" ∷ t)) ≡ of_kind (capture None) (st f t)
capture_at d f t l c = paren_at d f t l c.no_layout ∙ capture_start f (code "(" ∷ t) t c

-- ---- names

pub cut_before : (delimiter : ℕ) (w v : Text) → is_among delimiter w ≡ false →
    cut_at delimiter (w ++ delimiter ∷ v) ≡ Some (w, v)
cut_before delimiter [] v h = grind (arith, nat_tests)
cut_before delimiter (c ∷ []) v h =
    let other : (c == delimiter) ≡ false = grind (arith, nat_tests) in rw (other, cut_before delimiter [] v refl) refl
cut_before delimiter (c ∷ d ∷ w) v h =
    let (a, b) = or_parts (delimiter == c) (is_among delimiter (d ∷ w)) h in
    let other : (c == delimiter) ≡ false = grind (arith, nat_tests) in rw (other, cut_before delimiter (d ∷ w) v b) refl

name_read : (delimiter c : ℕ) (w t v : Text) → is_among delimiter (c ∷ w) ≡ false →
    group_name delimiter t (c ∷ (w ++ delimiter ∷ v)) ≡ gives (c ∷ w) v
unfolding group_name name_before
name_read delimiter c w t v h = rw (cut_before delimiter (c ∷ w) v h) refl

module _ (d : ℕ) (f : Flags) (c : ℕ) (w v : Text) (l : d + 1 < max_depth) where
  abbrev Reads : Text → Type 0
  Reads opening = atom_start d (st f (code "(" ∷ (opening ++ v))) ≡ of_kind (capture (Some (c ∷ w))) (st f v)

  -- the name with its delimiter, before some text
  delimited_text : (delimiter : ℕ) → ((c ∷ w) ++ delimiter ∷ []) ++ v ≡ (c ∷ w) ++ delimiter ∷ v
  delimited_text delimiter = append_assoc (c ∷ w) (delimiter ∷ []) v

  in_quotes : is_among (code "'") (c ∷ w) ≡ false → Reads (codes "?'" ++ ((c ∷ w) ++ codes "'"))
  in_quotes h =
      let t = (c ∷ w) ++ code "'" ∷ v in
      subst (λ z. atom_start d (st f (codes "(?'" ++ z)) ≡ of_kind (capture (Some (c ∷ w))) (st f v))
      (sym (delimited_text (code "'")))
      (question_at d f (code "'" ∷ t) l
      ∙ ap (named_start (st f (codes "(?'" ++ t))) (name_read (code "'") c w (code "'" ∷ t) v h))

  with_letter : is_among (code ">") (c ∷ w) ≡ false → Reads (codes "?P<" ++ ((c ∷ w) ++ codes ">"))
  with_letter h =
      let t = (c ∷ w) ++ code ">" ∷ v in
      subst (λ z. atom_start d (st f (codes "(?P<" ++ z)) ≡ of_kind (capture (Some (c ∷ w))) (st f v))
      (sym (delimited_text (code ">")))
      (question_at d f (codes "P<" ++ t) l
      ∙ ap (named_start (st f (codes "(?P<" ++ t))) (name_read (code ">") c w (codes "P<" ++ t) v h))

  without_letter : is_among (code ">") (c ∷ w) ≡ false → c ∈ "=!" ≡ false → Reads (codes "?<" ++ ((c ∷ w) ++ codes ">"))
  without_letter h k =
      let t = (c ∷ w) ++ code ">" ∷ v in
      subst (λ z. atom_start d (st f (codes "(?<" ++ z)) ≡ of_kind (capture (Some (c ∷ w))) (st f v))
      (sym (delimited_text (code ">")))
      (question_at d f (code "<" ∷ t) l
      ∙ no_look
      ∙ ap (named_start (st f (codes "(?<" ++ t))) (name_read (code ">") c w (code "<" ∷ t) v h))
    where
      no_look : after_question (st f (codes "(?<" ++ ((c ∷ w) ++ code ">" ∷ v))) (code "<" ∷ ((c ∷ w) ++ code ">" ∷ v))
          ≡ named_start (st f (codes "(?<" ++ ((c ∷ w) ++ code ">" ∷ v)))
          (group_name (code ">") (code "<" ∷ ((c ∷ w) ++ code ">" ∷ v)) ((c ∷ w) ++ code ">" ∷ v))
      no_look =
          let (a, b) = or_parts (c == code "=") (c == code "!") k in rw (a, b) refl

  pub opening_read : IsNameWritable (c ∷ w) → Reads (name_opening (c ∷ w))
  opening_read h =
      cond_both (is_among (code ">") (c ∷ w)) _ _ Reads
      (λ e. in_quotes (sym (ap (λ b. b && is_among (code "'") (c ∷ w)) e) ∙ h))
      (λ e. cond_both (c ∈ "=!") _ _ (λ z. Reads (z ++ (codes "<" ++ ((c ∷ w) ++ codes ">"))))
      (λ _. with_letter e) (λ k. without_letter e k))

-- ---- what a group is read as

abbrev pub inner : Flags → Context → Context
inner g h = deeper (under g h)

-- the text after the opening of a group is a suffix of the text
kind_ends : (d : ℕ) (f g : Flags) (s t : Text) (k : GroupKind) → atom_start d (st f s) ≡ of_kind k (st g t) → EndsWith s t
kind_ends d f g s t k e = to_ends (subst (StartReads (st f s)) e (start_reads d (st f s))).0

pub reads_flag_group : (μ : GroupInfo) (h : Context) (f g : Flags) (s t v : Text) (x : Tree) →
    atom_start h.depth (st h.flags s) ≡ of_kind flag_group (st f t) → WholeAt μ (inner f h) t g (code ")" ∷ v) x →
    AtomAt μ h s v x
reads_flag_group μ h f g s t v x e w =
    record {
      tree = w.tree;
      derives = atom e (a_group (inside w.derives));
      becomes = in_longer μ t s (kind_ends _ _ _ s t _ e) h.opened w.tree x w.becomes;
    }

-- nodes that hold a tree as they do when they are read
abbrev pub IsKept : Wrap → Type 0
IsKept label.group = ⊥
IsKept (label.ast_group name position) = ⊥
IsKept _ = Unit {0}

pub over_becomes : (μ : GroupInfo) (s : Text) (w : Wrap) (c : ℕ) (r x : Tree) → IsKept w → Becomes μ s c r x →
    Becomes μ s c (over w r) (over w x)
over_becomes μ s label.group c r x k b = absurd k
over_becomes μ s (label.ast_group name position) c r x k b = absurd k
over_becomes μ s w c r x k b =
    record { is = λ n u e. ap (over w) (b.is n u e); count = b.count; groups = b.groups }

pub reads_look : (μ : GroupInfo) (h : Context) (l : LookAround) (g : Flags) (s t v : Text) (x : Tree) →
    atom_start h.depth (st h.flags s) ≡ of_kind (look l) (st h.flags t) → WholeAt μ (deeper h) t g (code ")" ∷ v) x →
    AtomAt μ h s v (over (label.look_around l) x)
reads_look μ h l g s t v x e w = record {
  tree = look_around w.tree l;
  derives = atom e (a_group (inside w.derives));
  becomes =
      over_becomes μ s (label.look_around l) h.opened w.tree x tt
      (in_longer μ t s (kind_ends _ _ _ s t _ e) h.opened w.tree x w.becomes);
}

pub reads_atomic : (μ : GroupInfo) (h : Context) (g : Flags) (s t v : Text) (x : Tree) →
    atom_start h.depth (st h.flags s) ≡ of_kind atomic (st h.flags t) → WholeAt μ (deeper h) t g (code ")" ∷ v) x →
    AtomAt μ h s v (over label.atomic_group x)
reads_atomic μ h g s t v x e w = record {
  tree = atomic_group w.tree;
  derives = atom e (a_group (inside w.derives));
  becomes =
      over_becomes μ s label.atomic_group h.opened w.tree x tt
      (in_longer μ t s (kind_ends _ _ _ s t _ e) h.opened w.tree x w.becomes);
}

pub reads_define : (μ : GroupInfo) (h : Context) (g : Flags) (s t v : Text) (x : Tree) →
    atom_start h.depth (st h.flags s) ≡ of_kind define (st h.flags t) → WholeAt μ (deeper h) t g (code ")" ∷ v) x →
    AtomAt μ h s v (over label.define_group x)
reads_define μ h g s t v x e w = record {
  tree = define_group w.tree;
  derives = atom e (a_group (inside w.derives));
  becomes =
      over_becomes μ s label.define_group h.opened w.tree x tt
      (in_longer μ t s (kind_ends _ _ _ s t _ e) h.opened w.tree x w.becomes);
}

-- a capturing group that has a number, with the name in the group information
pub reads_group : (μ : GroupInfo) (h : Context) (name : Option Text) (g : Flags) (s t v : Text) (x : Tree) →
    atom_start h.depth (st h.flags s) ≡ of_kind (capture name) (st h.flags t) → name ≡ name_at μ (h.opened + 1) →
    is_counted μ.numbered_groups_ignored name ≡ true →
    WholeAt μ (deeper (past_groups 1 h)) t g (code ")" ∷ v) x → AtomAt μ h s v (over label.group x)
reads_group μ h name g s t v x e is counted w = record {
  tree = ast_group name (reach_of s) w.tree;
  derives = atom e (a_group (inside w.derives));
  becomes = record {
    is = λ n u q. ap unpositioned (cond-true _ _ _ counted) ∙ ap (over label.group) (w.becomes.is n u q);
    count = ap length (cond-true _ _ _ counted) ∙ (ap suc w.becomes.count ∙ omega arith);
    groups = (
      subst (λ b. IsOpening b μ h.opened name) (sym counted) is,
      subst (λ b. AreGroups μ s (if b then h.opened + 1 else h.opened) (items w.tree)) (sym counted)
          (in_longer μ t s (kind_ends _ _ _ s t _ e) (h.opened + 1) w.tree x w.becomes).groups,
    );
  };
}

-- a group that has no number, because only those with a name have one, is replaced by its contents
pub record BareAt (μ : GroupInfo) (h : Context) (s v : Text) (x : Tree) : Type 0 where
  pub atom : AtomAt μ h s v x
  pub solid : is_empty atom.tree ≡ false
  pub repeatable : is_repeatable h.flags atom.tree ≡ true

pub reads_bare : (μ : GroupInfo) (h : Context) (g : Flags) (s t v : Text) (x : Tree) →
    atom_start h.depth (st h.flags s) ≡ of_kind (capture None) (st h.flags t) → μ.numbered_groups_ignored ≡ true →
    WholeAt μ (deeper h) t g (code ")" ∷ v) x → BareAt μ h s v x
reads_bare μ h g s t v x e ignored w =
    let uncounted : is_counted μ.numbered_groups_ignored None ≡ false = ap (λ b. not b || false) ignored in
    record {
      atom = record {
        tree = ast_group None (reach_of s) w.tree;
        derives = atom e (a_group (inside w.derives));
        becomes = record {
          is = λ n u q. ap unpositioned (cond-false _ _ _ uncounted) ∙ w.becomes.is n u q;
          count = ap length (cond-false _ _ _ uncounted) ∙ w.becomes.count;
          groups = (
            subst (λ b. IsOpening b μ h.opened None) (sym uncounted) tt,
            subst (λ b. AreGroups μ s (if b then h.opened + 1 else h.opened) (items w.tree)) (sym uncounted)
                (in_longer μ t s (kind_ends _ _ _ s t _ e) h.opened w.tree x w.becomes).groups,
          );
        };
      };
      solid = refl;
      repeatable = refl;
    }

-- with empty contents
pub reads_nothing : (μ : GroupInfo) (h : Context) (v : Text) → h.depth + 1 < max_depth → μ.numbered_groups_ignored ≡ true →
    BareAt μ h (codes "()" ++ v) v empty
reads_nothing μ h v l ignored =
    let i = deeper h in
    let s = ends_close h.flags.ignore_space v in
    reads_bare μ h h.flags (codes "()" ++ v) (code ")" ∷ v) v empty
    (capture_at h.depth h.flags (code ")" ∷ v) l s.stops.clear) ignored
    (reads_only μ i (code ")" ∷ v) (code ")" ∷ v) h.flags empty
    (reads_branch μ i (code ")" ∷ v) (code ")" ∷ v) h.flags [] (no_more μ i (code ")" ∷ v) s.stops)) s.no_bar)

pub begins_nothing : (x : Bool) (v : Text) → Begins x (codes "()" ++ v)
begins_nothing x v = begins_by x (code "(") (code ")" ∷ v) refl refl refl refl

-- a bare group before other pieces
pub bare_rest : (μ : GroupInfo) (h : Context) (s v w : Text) (g : Flags) (x : Tree) (ys : List Tree) →
    Begins h.flags.ignore_space s → Clear h.flags.ignore_space v → BareAt μ h s v x →
    Rest μ (past_groups (group_count x) h) v g w ys → Rest μ h s g w (x ∷ ys)
bare_rest μ h s v w g x ys b c a r =
    lead_raw μ h s v w g a.atom.tree x ys b a.solid a.atom.becomes
    (piece_as b.clear.no_layout a.atom.derives
    (quants_one h.depth (bytes s) h.flags a.atom.tree a.atom.tree v v c
    (quant_none (bytes s) h.flags a.atom.tree v c))) r

-- a branch that is a bare group
pub record BareBranch (μ : GroupInfo) (h : Context) (s : Text) (g : Flags) (v : Text) (x : Tree) : Type 0 where
  pub branch : BranchAt μ h s g v x
  pub solid : is_empty branch.tree ≡ false

pub bare_branch : (μ : GroupInfo) (h : Context) (s v : Text) (x : Tree) →
    Begins h.flags.ignore_space s → Stops h.flags.ignore_space v → BareAt μ h s v x → BareBranch μ h s h.flags v x
bare_branch μ h s v x b c a =
    let r = a.atom.tree in
    let alone : join (r ∷ []) ≡ r = ap (one_or concat) (cond-false _ _ _ a.solid) in
    record {
      branch = record {
        tree = r;
        derives =
            subst (λ z. Branch h.depth (st h.flags s) (done z (st h.flags v))) alone
            (branch (next b.goes (piece_as b.clear.no_layout a.atom.derives
            (quants_one h.depth (bytes s) h.flags r r v v c.clear (quant_none (bytes s) h.flags r v c.clear)))
            (stop c.ends)));
        becomes = a.atom.becomes;
      };
      solid = a.solid;
    }

-- ---- a group of flags

-- the letters and a text, in parentheses
pub flag_group_text : (f g : Flags) (t v : Text) →
    (codes "(" ++ ((codes "?" ++ (letters_between f g ++ codes ":")) ++ (t ++ codes ")"))) ++ v
    ≡ codes "(?" ++ (letters_between f g ++ code ":" ∷ (t ++ code ")" ∷ v))
flag_group_text f g t v =
    ap (λ w. codes "(?" ++ w) (
    append_assoc (letters_between f g ++ codes ":") (t ++ codes ")") v
    ∙ append_assoc (letters_between f g) (codes ":") _
    ∙ ap (λ w. letters_between f g ++ code ":" ∷ w) (append_assoc t (codes ")") v))

pub begins_letters : (x : Bool) (f : Flags) (a b c d : Bool) (z : ℕ) (u : Text) → (z == code "#") ≡ false →
    Begins x (codes "(?" ++ (letters_between f (changed f a b c d) ++ z ∷ u))
begins_letters x f a b c d z u e =
    begins_by x (code "(") _ (no_hash f a b c d z u e) refl refl refl

pub flag_group_at : (d : ℕ) (f : Flags) (i m s r : Bool) (u : Text) → d + 1 < max_depth →
    atom_start d (st f (codes "(?" ++ (letters_between f (changed f i m s r) ++ code ":" ∷ u)))
    ≡ of_kind flag_group (st (changed f i m s r) u)
flag_group_at d f i m s r u l =
    let t = letters_between f (changed f i m s r) ++ code ":" ∷ u in
    question_at d f t l ∙ flag_group_start (st f (code "(" ∷ code "?" ∷ t)) i m s r u

-- ---- flags that are set

same_flag : (a b : Bool) → b && not a ≡ false → a && not b ≡ false → b ≡ a
same_flag true true e h = refl
same_flag true false e h = absurd cc
same_flag false true e h = absurd cc
same_flag false false e h = refl

-- if none is turned on or off
same_flags : (f : Flags) (i m s r : Bool) →
    turns_on f (changed f i m s r) || turns_on (changed f i m s r) f ≡ false → changed f i m s r ≡ f
same_flags f i m s r e =
    let (x, y) = or_parts (turns_on f (changed f i m s r)) _ e in
    let (x1, p1) = or_parts (i && not f.casei) _ x in
    let (x2, p2) = or_parts (m && not f.multi) _ p1 in
    let (x3, x4) = or_parts (s && not f.dotnl) _ p2 in
    let (y1, q1) = or_parts (f.casei && not i) _ y in
    let (y2, q2) = or_parts (f.multi && not m) _ q1 in
    let (y3, y4) = or_parts (f.dotnl && not s) _ q2 in
    let e1 = same_flag f.casei i x1 y1 in
    let e2 = same_flag f.multi m x2 y2 in
    let e3 = same_flag f.dotnl s x3 y3 in
    let e4 = same_flag f.crlf r x4 y4 in
    λ k. changed f (e1 k) (e2 k) (e3 k) (e4 k)

module _ (μ : GroupInfo) (h : Context) (i m s r : Bool) where
  abbrev g : Flags
  g = changed h.flags i m s r

  abbrev set_if : Bool → Text
  set_if b = if b then codes "(?" ++ (letters_between h.flags g ++ codes ")") else []

  set_text : (t : Text) →
      (codes "(?" ++ (letters_between h.flags g ++ codes ")")) ++ t
      ≡ codes "(?" ++ (letters_between h.flags g ++ code ")" ∷ t)
  set_text t = ap (λ w. codes "(?" ++ w) (append_assoc (letters_between h.flags g) (codes ")") t)

  begins_set : (x b : Bool) (t : Text) → Begins x t → Begins x (set_if b ++ t)
  begins_set x true t h' = subst (Begins x) (sym (set_text t)) (begins_letters x h.flags i m s r (code ")") t refl)
  begins_set x false t h' = h'

  pub begins_inline_flags : (x : Bool) (t : Text) → Begins x t → Begins x (inline_flags h.flags g ++ t)
  begins_inline_flags x t b = begins_set x (turns_on h.flags g || turns_on g h.flags) t b

  set_rest : (b : Bool) → turns_on h.flags g || turns_on g h.flags ≡ b → (t w : Text) (k : Flags) (ys : List Tree) →
      MayOpenIf b h → Begins h.flags.ignore_space t →
      Rest μ (under g h) t k w ys →
      Rest μ h (set_if b ++ t) k w ys
  set_rest true e t w k ys l n q =
      let u = letters_between h.flags g ++ code ")" ∷ t in
      subst (λ z. Rest μ h z k w ys) (sym (set_text t))
      (lead_flags μ h g k (codes "(?" ++ u) t w ys (begins_letters h.flags.ignore_space h.flags i m s r
      (code ")") t refl)
      n.clear
      (atom
      (question_at h.depth h.flags u (l refl)
      ∙ inline_flags_start (st h.flags (code "(" ∷ code "?" ∷ u)) i m s r t e)
      a_read) q)
  set_rest false e t w k ys l n q = subst (λ f. Rest μ (under f h) t k w ys) (same_flags h.flags i m s r e) q

  pub inline_flags_rest : (t w : Text) (k : Flags) (ys : List Tree) → MaySet g h →
      Begins h.flags.ignore_space t → Rest μ (under g h) t k w ys → Rest μ h (inline_flags h.flags g ++ t) k w ys
  inline_flags_rest t w k ys l n q = set_rest (turns_on h.flags g || turns_on g h.flags) refl t w k ys l n q

-- ---- flags that are set before a whole text

module _ (d : ℕ) (s u : State)
    (first : (q : Outcome (List Tree)) → Pieces d s q → Pieces d u (mapped (empty ∷◌) q)) where
  same_branch : (q : Outcome (List Tree)) → mapped join (mapped (empty ∷◌) q) ≡ mapped join q
  same_branch (done l t) = refl
  same_branch (failed e) = refl

  branch_after : {q : Outcome Tree} → Branch d s q → Branch d u q
  branch_after (branch {q} p) = subst (Branch d u) (same_branch q) (branch (first q p))

  branches_after : {q : Outcome (List Tree)} → Branches d s q → Branches d u q
  branches_after (last b e) = last (branch_after b) e
  branches_after (more b e r) = more (branch_after b) e r
  branches_after (branch_error b) = branch_error (branch_after b)

  pub whole_after : {q : Outcome Tree} → Alternation d s q → Alternation d u q
  whole_after (alternation b) = alternation (branches_after b)

module _ (μ : GroupInfo) (h : Context) (i m s r : Bool) (t v : Text) (k : Flags) (x : Tree)
    (c : Clear h.flags.ignore_space t) where
  abbrev then_flags : Flags
  then_flags = changed h.flags i m s r

  set_whole : (b : Bool) → turns_on h.flags then_flags || turns_on then_flags h.flags ≡ b → MayOpenIf b h →
      WholeAt μ (under then_flags h) t k v x →
      WholeAt μ h ((if b then codes "(?" ++ (letters_between h.flags then_flags ++ codes ")") else []) ++ t) k v x
  set_whole true e l w =
      let u = letters_between h.flags then_flags ++ code ")" ∷ t in
      let b = begins_letters h.flags.ignore_space h.flags i m s r (code ")") t refl in
      let a = atom
      (question_at h.depth h.flags u (l refl)
      ∙ inline_flags_start (st h.flags (code "(" ∷ code "?" ∷ u)) i m s r t e)
      a_read in
      subst (λ z. WholeAt μ h z k v x) (sym (set_text μ h i m s r t)) (record {
        tree = w.tree;
        derives =
            whole_after h.depth (st then_flags t) (st h.flags (codes "(?" ++ u))
            (λ q p. next b.goes
            (piece_as b.clear.no_layout a
            (quants_one h.depth (bytes (codes "(?" ++ u)) then_flags empty empty t t c
            (quant_none (bytes (codes "(?" ++ u)) then_flags empty t c))) p)
            w.derives;
        becomes =
            in_longer μ t (codes "(?" ++ u) (
              codes "(?" ++ (letters_between h.flags then_flags ++ codes ")"),
              sym (set_text μ h i m s r t),
            ) h.opened w.tree x w.becomes;
      })
  set_whole false e l w = subst (λ f. WholeAt μ (under f h) t k v x) (same_flags h.flags i m s r e) w

  pub whole_after_flags : MaySet then_flags h → WholeAt μ (under then_flags h) t k v x →
      WholeAt μ h (inline_flags h.flags then_flags ++ t) k v x
  whole_after_flags l w = set_whole (turns_on h.flags then_flags || turns_on then_flags h.flags) refl l w
