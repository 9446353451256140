-- The text of a writable tree reads back wherever it is written: by induction on the tree.
use Rattle.fancy_grammar.specs.Pattern.{deeper}
use Rattle.fancy_pattern.proofs.PatternLaws.Groups.{reads_bare, capture_at}
use Rattle.fancy_pattern.proofs.PatternLaws.Rules.{no_question}
use Rattle.fancy_grammar.proofs.ReadBack.ClearLemmas.{not_asking}
use Rattle.std.proofs.Common.{◌+◌, ◌<◌}
use Rattle.fancy_grammar.specs.Depth.{max_depth}
use Rattle.fancy_pattern.proofs.PatternLaws.Groups.{reads_nothing, begins_nothing, bare_rest, BareAt}
use Rattle.std.proofs.lemmas.Bool.{true≢false}
use Rattle.fancy_pattern.proofs.PatternLaws.Rules.{begins_by}
use Rattle.std.proofs.Common.{◌≡◌, Bool, true, false, List, [], ◌∷◌, ◌++◌}
use Rattle.std.proofs.Common.{codes, refl, sym, ap, ◌∙◌, subst, append_assoc}
use Rattle.std.proofs.lemmas.Bool.{false≢true}
use Prim.Native.Char.{code}
use Rattle.fancy_lex.specs.Text.{Text}
use Rattle.fancy_lex.specs.declared.flags.Flags.{Flags}
use Rattle.fancy_grammar.specs.Join.{is_empty, one_or}
use Rattle.fancy_grammar.specs.Label as label
use Rattle.fancy_grammar.specs.GroupInfo.{GroupInfo}
use Rattle.fancy_grammar.specs.Pattern.{Context, under, past_groups, after, flags_after}
use Rattle.fancy_grammar.specs.Pattern.{group_count}
use Rattle.fancy_grammar.specs.PatternNeeds.{inline_flags, settled, letters_between}
use Rattle.fancy_grammar.specs.Quantified.{is_repeatable}
use Rattle.fancy_grammar.specs.Tree.{Tree, leaf, concat}
use Rattle.fancy_grammar.specs.declared.precedence.Precedence.TheVariants.{Piece}
use Rattle.fancy_grammar.proofs.PatternDepth.{MayOpen, MaySet, FitsInParens}
use Rattle.fancy_pattern.proofs.PatternLaws.Groups.{begins_inline_flags, inline_flags_rest, flag_group_text, flag_group_at}
use Rattle.fancy_pattern.proofs.PatternLaws.Groups.{reads_flag_group}
use Rattle.fancy_pattern.proofs.PatternLaws.Groups.{begins_letters, inner}
use Rattle.fancy_pattern.proofs.PatternLaws.Needed.{no_inline_flags}
use Rattle.fancy_pattern.proofs.PatternLaws.Quantifiers.{NoName, no_name}
use Rattle.fancy_pattern.proofs.PatternLaws.Rules.{Clear, Begins, Stops, Ends, no_brace, ends_close, AtomAt, BranchAt}
use Rattle.fancy_pattern.proofs.PatternLaws.Rules.{WholeAt}
use Rattle.fancy_pattern.proofs.PatternLaws.Rules.{Rest, no_more, lead, reads_branch, reads_only, Follows, ends_no_digit}

-- the tree is not Empty, unless groups without a number are replaced by their contents
abbrev pub MayBeLeft : GroupInfo → Tree → Type 0
MayBeLeft μ t = μ.numbered_groups_ignored ≡ false → is_empty t ≡ false

-- if the tree cannot be repeated, its text is a group without a number
abbrev pub BareIn : GroupInfo → Tree → Context → Type 0 → Text → Type 0
BareIn μ t h d k =
    d → is_repeatable h.flags t ≡ false → μ.numbered_groups_ignored ≡ true →
    ((v : Text) → Begins h.flags.ignore_space (k ++ v))
    × (settled h.flags t ≡ h.flags → (v : Text) → BareAt μ h (k ++ v) v t)

-- What the texts of a tree are read as here, whatever follows: as the whole of a group, a branch, a piece, and the
-- operand of a quantifier; with the flags that hold after the first two. Each of these requires that the text fits.
pub record ReadsBy (μ : GroupInfo) (t : Tree) (h : Context) (d0 d1 d2 d3 : Type 0) (k0 k1 k2 k3 : Text) (g0 g1 : Flags) :
    Type 0 where
  pub whole_clear : d0 → (v : Text) → Clear h.flags.ignore_space v → Clear h.flags.ignore_space (k0 ++ v)
  pub branch_clear : d1 → (v : Text) → Clear h.flags.ignore_space v → Clear h.flags.ignore_space (k1 ++ v)
  pub branch_begins : d1 → is_empty t ≡ false → (v : Text) → Begins h.flags.ignore_space (k1 ++ v)
  pub begins : d2 → MayBeLeft μ t → (v : Text) → Begins h.flags.ignore_space (k2 ++ v)
  pub atom_begins : d3 → is_repeatable h.flags t ≡ true → (v : Text) → Begins h.flags.ignore_space (k3 ++ v)
  pub whole : d0 → (v : Text) → Ends h.flags.ignore_space v → WholeAt μ h (k0 ++ v) g0 v t
  pub branch : d1 → (v : Text) → Stops h.flags.ignore_space v → BranchAt μ h (k1 ++ v) g1 v t
  pub piece : d2 → MayBeLeft μ t → (v w : Text) (g : Flags) (ys : List Tree) → Clear h.flags.ignore_space v →
      Follows μ t v →
      Rest μ (after t Piece h) v g w ys → Rest μ h (k2 ++ v) g w (t ∷ ys)
  pub atom : d3 → is_repeatable h.flags t ≡ true → settled h.flags t ≡ h.flags → (v : Text) →
      NoName h.flags.ignore_space v → Follows μ t v → AtomAt μ h (k3 ++ v) v t
  pub bare : BareIn μ t h d3 k3

-- a tree that is read so if one condition holds is read so if any condition that implies it holds
pub refit : {μ : GroupInfo} {t : Tree} {h : Context} {d e0 e1 e2 d3 : Type 0} {k0 k1 k2 k3 : Text} {g0 g1 : Flags} →
    (e0 → d) → (e1 → d) → (e2 → d) → ReadsBy μ t h d d d d3 k0 k1 k2 k3 g0 g1 →
    ReadsBy μ t h e0 e1 e2 d3 k0 k1 k2 k3 g0 g1
refit f0 f1 f2 r = record {
  whole_clear = λ x. r.whole_clear (f0 x);
  branch_clear = λ x. r.branch_clear (f1 x);
  branch_begins = λ x. r.branch_begins (f1 x);
  begins = λ x. r.begins (f2 x);
  atom_begins = r.atom_begins;
  whole = λ x. r.whole (f0 x);
  branch = λ x. r.branch (f1 x);
  piece = λ x. r.piece (f2 x);
  atom = r.atom;
  bare = r.bare;
}

pub clear_name : (x : Bool) (v : Text) → Clear x v → NoName x v
clear_name x v c = no_name x v c.no_layout (no_brace v c.no_quantifier)

-- from here on, the pieces of a text are the tree and those that follow
abbrev pub LeadsTo : (μ : GroupInfo) → Tree → Context → Text → Type 0
LeadsTo μ t h s =
    (v w : Text) (k : Flags) (ys : List Tree) → Clear h.flags.ignore_space v → Follows μ t v →
    Rest μ (past_groups (group_count t) h) v k w ys → Rest μ h (s ++ v) k w (t ∷ ys)

abbrev pub BeginsIn : Context → Text → Type 0
BeginsIn h s = (v : Text) → Begins h.flags.ignore_space (s ++ v)

abbrev pub AtomIn : (μ : GroupInfo) → Tree → Context → Text → Type 0
AtomIn μ t h s = (v : Text) → NoName h.flags.ignore_space v → Follows μ t v → AtomAt μ h (s ++ v) v t

module _ (μ : GroupInfo) (t : Tree) (h : Context) (solid : is_empty t ≡ false) where
  pub one_branch : (s : Text) (g : Flags) → ((v w : Text) (k : Flags) (ys : List Tree) → Clear h.flags.ignore_space v →
      Follows μ t v → Rest μ (past_groups (group_count t) (under g h)) v k w ys → Rest μ h (s ++ v) k w (t ∷ ys)) →
      (v : Text) →
      Stops h.flags.ignore_space v → g.ignore_space ≡ h.flags.ignore_space → BranchAt μ h (s ++ v) g v t
  one_branch s g p v e same =
      reads_branch μ h (s ++ v) v g (t ∷ [])
      (p v v g [] e.clear (λ _. ends_no_digit v e.ends)
      (no_more μ (past_groups (group_count t) (under g h)) v (subst (λ x. Stops x v) (sym same) e)))

  pub atom_leads : (s : Text) → BeginsIn h s → AtomIn μ t h s → LeadsTo μ t h s
  atom_leads s b a v w k ys c y q =
      lead μ h (s ++ v) v w k t ys (b v) c solid (a v (clear_name h.flags.ignore_space v c) y) q

-- ---- what follows the flags that are set for it

module _ (μ : GroupInfo) (t : Tree) (h : Context) (solid : is_empty t ≡ false) where
  abbrev pub set_flags : Flags
  set_flags = settled h.flags t

  abbrev pub after_set : Text → Text
  after_set s = inline_flags h.flags set_flags ++ s

  pub set_begins : (s : Text) → BeginsIn (under set_flags h) s → BeginsIn h (after_set s)
  set_begins s b v =
      subst (Begins h.flags.ignore_space) (sym (append_assoc (inline_flags h.flags set_flags) s v))
      (begins_inline_flags μ h set_flags.casei set_flags.multi set_flags.dotnl set_flags.crlf h.flags.ignore_space (s ++ v)
      (b v))

  set_leads : MaySet set_flags h → (s : Text) → BeginsIn (under set_flags h) s → LeadsTo μ t (under set_flags h) s →
      (v w : Text) (k : Flags) (ys : List Tree) → Clear h.flags.ignore_space v → Follows μ t v →
      Rest μ (past_groups (group_count t) (under set_flags h)) v k w ys → Rest μ h (after_set s ++ v) k w (t ∷ ys)
  set_leads d s b l v w k ys c y q =
      subst (λ z. Rest μ h z k w (t ∷ ys)) (sym (append_assoc (inline_flags h.flags set_flags) s v))
      (inline_flags_rest μ h set_flags.casei set_flags.multi set_flags.dotnl set_flags.crlf (s ++ v) w k (t ∷ ys) d (b v)
      (l v w k ys c y q))

  -- a tree that is a piece wherever it is written
  pub by_piece : (d d3 : Type 0) (s k3 : Text) → (d → MaySet set_flags h) → (d → BeginsIn (under set_flags h) s) →
      (d → LeadsTo μ t (under set_flags h) s) →
      flags_after t Piece h.flags ≡ set_flags → (d3 → is_repeatable h.flags t ≡ true → BeginsIn h k3) →
      (d3 → is_repeatable h.flags t ≡ true → settled h.flags t ≡ h.flags → AtomIn μ t h k3) → BareIn μ t h d3 k3 →
      ReadsBy μ t h d d d d3 (after_set s) (after_set s) (after_set s) k3 set_flags set_flags
  by_piece d d3 s k3 m b l e n a bare =
      let p = λ (x : d). set_leads (m x) s (b x) (l x) in
      let q = λ (x : d) (v : Text) (i : Stops h.flags.ignore_space v). one_branch μ t h solid
      (after_set s) set_flags (p x) v i refl in
      record {
        whole_clear = λ x v c. (set_begins s (b x) v).clear;
        branch_clear = λ x v c. (set_begins s (b x) v).clear;
        branch_begins = λ x _. set_begins s (b x);
        begins = λ x _. set_begins s (b x);
        atom_begins = n;
        whole = λ x v i. reads_only μ h _ v set_flags t (q x v i.stops) i.no_bar;
        branch = q;
        piece =
            λ x _ v w k ys c y r. p x v w k ys c y
            (subst (λ f. Rest μ (past_groups (group_count t) (under f h)) v k w ys) e r);
        atom = a;
        bare = bare;
      }

  pub set_none : (s v : Text) → settled h.flags t ≡ h.flags → after_set s ++ v ≡ s ++ v
  set_none s v e =
      ap (λ f. (inline_flags h.flags f ++ s) ++ v) e ∙ ap (λ w. (w ++ s) ++ v) (no_inline_flags h.flags)

  -- a tree that is an atom wherever it is written
  pub by_atom : (d d3 : Type 0) (s k3 : Text) → (d → MaySet set_flags h) → (d → BeginsIn (under set_flags h) s) →
      (d → AtomIn μ t (under set_flags h) s) →
      flags_after t Piece h.flags ≡ set_flags → (is_repeatable h.flags t ≡ true → (d3 → d) × (k3 ≡ after_set s)) →
      BareIn μ t h d3 k3 → ReadsBy μ t h d d d d3 (after_set s) (after_set s) (after_set s) k3 set_flags set_flags
  by_atom d d3 s k3 m b a e same bare =
      by_piece d d3 s k3 m b (λ x. atom_leads μ t (under set_flags h) solid s (b x) (a x)) e
      (λ x r. subst (BeginsIn h) (sym (same r).1) (set_begins s (b ((same r).0 x))))
      (λ x r u. subst (AtomIn μ t h) (sym (same r).1)
      (λ v m y. subst (λ w. AtomAt μ h w v t) (sym (set_none s v u))
      (subst (λ f. AtomAt μ (under f h) (s ++ v) v t) u (a ((same r).0 x) v m y)))) bare

  -- in a group without a number
  pub bare_by : (d : Type 0) (text : Text) → (d → h.depth + 1 < max_depth) → (d → BeginsIn (under set_flags h) text) →
      (d → AtomIn μ t (deeper (under set_flags h)) text) →
      BareIn μ t h d (inline_flags h.flags set_flags ++ (codes "(" ++ (text ++ codes ")")))
  bare_by d text m b a x e g =
      let i = under set_flags h in
      let s = codes "(" ++ (text ++ codes ")") in
      let same : (v : Text) → s ++ v ≡ code "(" ∷ (text ++ code ")" ∷ v)
      = λ v. ap (λ z. code "(" ∷ z) (append_assoc text (codes ")") v) in
      let first = λ (v : Text). b x (code ")" ∷ v) in
      let here = λ (v : Text). let q = ends_close h.flags.ignore_space v in
      subst (λ z. BareAt μ i z v t) (sym (same v))
      (reads_bare μ i i.flags (code "(" ∷ (text ++ code ")" ∷ v)) (text ++ code ")" ∷ v) v t
      (capture_at i.depth i.flags (text ++ code ")" ∷ v) (m x) (first v).clear) g
      (reads_only μ (deeper i) (text ++ code ")" ∷ v) (code ")" ∷ v) i.flags t
      (one_branch μ t (deeper i) solid text i.flags (atom_leads μ t (deeper i) solid text (b x) (a x)) (code ")" ∷ v)
      q.stops refl) q.no_bar)) in (
        set_begins s (λ v. subst (Begins h.flags.ignore_space) (sym (same v))
            (begins_by h.flags.ignore_space (code "(") _
            (not_asking (text ++ code ")" ∷ v) (no_question (text ++ code ")" ∷ v) (first v).clear.no_quantifier)) refl
            refl
            refl)),
        λ u v. subst (λ z. BareAt μ h z v t) (sym (set_none s v u))
            (subst (λ f. BareAt μ (under f h) (s ++ v) v t) u (here v)),
      )

-- ---- what is in a group of flags when it is a piece

module _ (μ : GroupInfo) (t : Tree) (h : Context) (solid : is_empty t ≡ false)
    (rep : is_repeatable h.flags t ≡ true) where
  abbrev pub set_in : Flags
  set_in = settled h.flags t

  abbrev pub scoped : Text → Text
  scoped s =
      codes "(" ++ ((codes "?" ++ (letters_between h.flags set_in ++ codes ":")) ++ (s ++ codes ")"))

  flag_group_begins : (s : Text) → BeginsIn h (scoped s)
  flag_group_begins s v =
      subst (Begins h.flags.ignore_space) (sym (flag_group_text h.flags set_in s v))
      (begins_letters h.flags.ignore_space h.flags set_in.casei set_in.multi set_in.dotnl set_in.crlf (code ":")
      (s ++ code ")" ∷ v) refl)

  flag_group_atom : MayOpen h → (s : Text) (g : Flags) →
      ((v : Text) → Ends h.flags.ignore_space v → WholeAt μ (inner set_in h) (s ++ v) g v t) → AtomIn μ t h (scoped s)
  flag_group_atom d s g w v m y =
      let u = s ++ code ")" ∷ v in
      subst (λ z. AtomAt μ h z v t) (sym (flag_group_text h.flags set_in s v))
      (reads_flag_group μ h set_in g (codes "(?" ++ (letters_between h.flags set_in ++ code ":" ∷ u)) u v t
      (flag_group_at h.depth h.flags set_in.casei set_in.multi set_in.dotnl set_in.crlf u d)
      (w (code ")" ∷ v) (ends_close h.flags.ignore_space v)))

  -- a Concat: pieces directly in a branch
  pub by_branch : (d : Type 0) (inside : Context → Type 0) (k s : Text) (g f : Flags) (ys : List Tree) →
      one_or concat ys ≡ t → (d → BeginsIn h k) →
      (d → (v : Text) → Stops h.flags.ignore_space v → Rest μ h (k ++ v) g v ys) →
      (inside (inner set_in h) → (v : Text) → Ends h.flags.ignore_space v → WholeAt μ (inner set_in h) (s ++ v) f v t) →
      flags_after t Piece h.flags ≡ h.flags →
      ReadsBy μ t h d d (FitsInParens inside (under set_in h)) (FitsInParens inside (under set_in h)) k k (scoped s)
      (scoped s) g g
  by_branch d inside k s g f ys is c q w e =
      let a = λ (x : FitsInParens inside (under set_in h)). flag_group_atom x.0 s f (w x.1) in
      let b = λ (x : d) (v : Text) (i : Stops h.flags.ignore_space v).
      subst (BranchAt μ h (k ++ v) g v) is (reads_branch μ h (k ++ v) v g ys (q x v i)) in
      record {
        whole_clear = λ x v _. (c x v).clear;
        branch_clear = λ x v _. (c x v).clear;
        branch_begins = λ x _. c x;
        begins = λ _ _. flag_group_begins s;
        atom_begins = λ _ _. flag_group_begins s;
        whole = λ x v i. reads_only μ h _ v g t (b x v i.stops) i.no_bar;
        branch = b;
        piece =
            λ x _ v w k ys c y r. atom_leads μ t h solid (scoped s) (flag_group_begins s) (a x) v w k ys c y
            (subst (λ f. Rest μ (past_groups (group_count t) (under f h)) v k w ys) e r);
        atom = λ x _ _. a x;
        bare = λ _ e. absurd (true≢false (sym rep ∙ e));
      }

  -- an Alt: branches directly in a group
  pub by_whole : (d : Type 0) (inside : Context → Type 0) (k s : Text) (g f : Flags) →
      (d → (v : Text) → Clear h.flags.ignore_space v → Clear h.flags.ignore_space (k ++ v)) →
      (d → (v : Text) → Ends h.flags.ignore_space v → WholeAt μ h (k ++ v) g v t) →
      (inside (inner set_in h) → (v : Text) → Ends h.flags.ignore_space v → WholeAt μ (inner set_in h) (s ++ v) f v t) →
      flags_after t Piece h.flags ≡ h.flags →
      let x = FitsInParens inside (under set_in h) in
      ReadsBy μ t h d x x x k (scoped s) (scoped s) (scoped s) g h.flags
  by_whole d inside k s g f c q w e =
      let a = λ (x : FitsInParens inside (under set_in h)). flag_group_atom x.0 s f (w x.1) in
      let l = λ (x : FitsInParens inside (under set_in h)).
      atom_leads μ t h solid (scoped s) (flag_group_begins s) (a x) in
      record {
        whole_clear = c;
        branch_clear = λ _ v c. (flag_group_begins s v).clear;
        branch_begins = λ _ _. flag_group_begins s;
        begins = λ _ _. flag_group_begins s;
        atom_begins = λ _ _. flag_group_begins s;
        whole = q;
        branch = λ x v i. one_branch μ t h solid (scoped s) h.flags (l x) v i refl;
        piece =
            λ x _ v w k ys c y r. l x v w k ys c y (subst
            (λ f. Rest μ (past_groups (group_count t) (under f h)) v k w ys) e r);
        atom = λ x _ _. a x;
        bare = λ _ e. absurd (true≢false (sym rep ∙ e));
      }

-- the empty text, where branches or pieces may be written
pub by_left : (b : Bool) → (b ≡ false → true ≡ false) → b ≡ true
by_left true h = refl
by_left false h = sym (h refl)

pub by_nothing : (μ : GroupInfo) (h : Context) (d0 d1 d2 d3 : Type 0) →
    (d2 → h.depth + 1 < max_depth) → (d3 → h.depth + 1 < max_depth) →
    ReadsBy μ (leaf label.empty) h d0 d1 d2 d3 [] [] (codes "()") (codes "()") h.flags h.flags
by_nothing μ h d0 d1 d2 d3 m n =
    let q = λ (v : Text) (i : Stops h.flags.ignore_space v).
    reads_branch μ h v v h.flags [] (no_more μ h v i) in
    record {
      whole_clear = λ _ v c. c;
      branch_clear = λ _ v c. c;
      branch_begins = λ _ e. absurd (false≢true (sym e));
      begins = λ _ _ v. begins_nothing h.flags.ignore_space v;
      atom_begins = λ _ e. absurd (false≢true e);
      whole = λ _ v i. reads_only μ h v v h.flags (leaf label.empty) (q v i.stops) i.no_bar;
      branch = λ _. q;
      piece =
          λ d e v w g ys c y r. bare_rest μ h (codes "()" ++ v) v w g (leaf label.empty) ys
          (begins_nothing h.flags.ignore_space v) c (reads_nothing μ h v (m d) (by_left μ.numbered_groups_ignored e)) r;
      atom = λ _ e. absurd (false≢true e);
      bare = λ d _ g. ((λ v. begins_nothing h.flags.ignore_space v), (λ _ v. reads_nothing μ h v (n d) g));
    }
