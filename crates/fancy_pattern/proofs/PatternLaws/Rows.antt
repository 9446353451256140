-- A Concat and an Alt read back if the trees below them do.
use Rattle.std.proofs.Common.{◌≡◌, ◌+◌, Bool, false, [], ◌∷◌, ◌++◌}
use Rattle.std.proofs.Common.{refl, sym, ap, ◌∙◌, subst, append_assoc, ℕ, codes, true, ◌&&◌}
use Rattle.std.proofs.lemmas.Bool.{cond_both, and_parts, false≢true}
use Prim.Native.Char.{code}
use Rattle.fancy_lex.specs.Text.{Text}
use Rattle.fancy_lex.specs.declared.flags.Flags.{Flags}
use Rattle.fancy_grammar.specs.Join.{one_or, choice}
use Rattle.fancy_grammar.specs.Label as label
use Rattle.fancy_grammar.specs.GroupInfo.{GroupInfo}
use Rattle.fancy_grammar.specs.Pattern.{Context, after, flags_after, flags_after_all, written}
use Rattle.fancy_grammar.specs.Pattern.{written_all, written_branches, written_barred, is_in_digits, group_count}
use Rattle.fancy_grammar.specs.PatternNeeds.{settled}
use Rattle.fancy_grammar.specs.Tree.{Tree, row, Trees, no_trees, more_trees, list_of}
use Rattle.fancy_grammar.specs.Tree.{concat}
use Rattle.fancy_grammar.specs.Tree.{trees_of}
use Rattle.fancy_grammar.specs.declared.precedence.Precedence.TheVariants.{Whole, Branch, Piece}
use Rattle.fancy_grammar.proofs.PatternDepth.{Fits, FitAll}
use Rattle.fancy_grammar.proofs.Writable.{IsLike}
use Rattle.fancy_pattern.proofs.NeedsLemmas.{listed}
use Rattle.fancy_pattern.proofs.PatternLaws.Cases.{ReadsTree}
use Rattle.fancy_pattern.proofs.PatternLaws.Groups.{inner}
use Rattle.fancy_pattern.proofs.PatternLaws.Induction.{MayBeLeft, by_branch, by_whole}
use Rattle.fancy_pattern.proofs.PatternLaws.Needed.{like_after}
use Rattle.fancy_pattern.proofs.PatternLaws.Separated.{LeadsPast}
use Rattle.fancy_pattern.proofs.PatternLaws.Rules.{Clear, Begins, Stops, Ends, stops_bar, BranchAt, BranchesAt, WholeAt}
use Rattle.fancy_pattern.proofs.PatternLaws.Rules.{Rest, no_more, ends_no_digit}
use Rattle.fancy_pattern.proofs.PatternLaws.Rules.{reads_branch, reads_last, reads_more, reads_whole, reads_only}
use Rattle.fancy_lex.specs.Number.{at_digit}

module _ (μ : GroupInfo) (f : Flags) where
  -- after the openings of c groups, the tree reads back wherever it is written
  abbrev pub Everywhere : ℕ → Tree → Type 0
  Everywhere c t =
      (h : Context) → h.opened ≡ c → IsLike f h.flags → ReadsTree μ t h

  -- if the tree is a reference in digits, a comment may follow it
  abbrev pub IsSeparated : Tree → Type 0
  IsSeparated t =
      is_in_digits μ t ≡ true → (h : Context) → IsLike f h.flags → Fits t Piece h → LeadsPast μ h t

  abbrev pub EachPiece : ℕ → Trees → Type 0
  EachPiece c no_trees = Unit {0}
  EachPiece c (more_trees t ts) =
      Everywhere c t × MayBeLeft μ t × IsSeparated t × EachPiece (c + group_count t) ts

  abbrev pub EachBranch : ℕ → Trees → Type 0
  EachBranch c no_trees = Unit {0}
  EachBranch c (more_trees t ts) = Everywhere c t × EachBranch (c + group_count t) ts

  -- what is layout does not change
  same_space : (g k : Flags) → IsLike f g → IsLike f k → g.ignore_space ≡ k.ignore_space
  same_space g k e d = ap (λ j. j.ignore_space) e ∙ sym (ap (λ j. j.ignore_space) d)

  -- ---- pieces

  -- the first of some pieces, before the others
  pieces_text : (t : Tree) (ts : Trees) (h : Context) (v : Text) →
      written_all μ false (more_trees t ts) h ++ v
      ≡ written μ t Piece h ++ (written_all μ (is_in_digits μ t) ts (after t Piece h) ++ v)
  pieces_text t ts h v =
      append_assoc (written μ t Piece h) (written_all μ (is_in_digits μ t) ts (after t Piece h)) v

  like_next : (t : Tree) (h : Context) → IsLike f h.flags → IsLike f (after t Piece h).flags
  like_next t h e = like_after t Piece f h.flags e

  pieces_begin : (t : Tree) (ts : Trees) (h : Context) → EachPiece h.opened (more_trees t ts) →
      IsLike f h.flags →
      FitAll (more_trees t ts) Piece h → (v : Text) →
      Begins h.flags.ignore_space (written_all μ false (more_trees t ts) h ++ v)
  pieces_begin t ts h k e d v =
      subst (Begins h.flags.ignore_space) (sym (pieces_text t ts h v))
      ((k.0 h refl e).begins d.0 k.1 (written_all μ (is_in_digits μ t) ts (after t Piece h) ++ v))

  pieces_clear : (ts : Trees) (h : Context) → EachPiece h.opened ts → IsLike f h.flags →
      FitAll ts Piece h →
      (v : Text) → Clear h.flags.ignore_space v → Clear h.flags.ignore_space (written_all μ false ts h ++ v)
  pieces_clear no_trees h k e d v c = c
  pieces_clear (more_trees t ts) h k e d v c = (pieces_begin t ts h k e d v).clear

  -- a piece has a first character
  same_digit : (x : Bool) (s v : Text) → Begins x (s ++ []) → at_digit (s ++ v) ≡ at_digit s
  same_digit x [] v b = absurd (false≢true (sym b.goes))
  same_digit x (c ∷ s) v b = refl

  -- after a reference in digits or not, the pieces are unchanged, or an empty comment comes before a digit
  next_text : (b : Bool) (ts : Trees) (h : Context) → EachPiece h.opened ts → IsLike f h.flags →
      FitAll ts Piece h → (v : Text) → at_digit v ≡ false → (P : Text → Type 0) →
      ((b ≡ true → at_digit (written_all μ false ts h ++ v) ≡ false) → P (written_all μ false ts h ++ v)) →
      (b ≡ true → P (codes "(?#)" ++ (written_all μ false ts h ++ v))) → P (written_all μ b ts h ++ v)
  next_text b no_trees h k e d v none P alone separated = alone (λ _. none)
  next_text b (more_trees t ts) h k e d v none P alone separated =
      let s = written μ t Piece h in
      let others = written_all μ (is_in_digits μ t) ts (after t Piece h) in
      let first : at_digit ((s ++ others) ++ v) ≡ at_digit s
      = ap at_digit (append_assoc s others v)
      ∙ same_digit h.flags.ignore_space s (others ++ v) ((k.0 h refl e).begins d.0 k.1 []) in
      cond_both (b && at_digit s) (codes "(?#)" ++ s) s (λ z. P ((z ++ others) ++ v))
      (λ q. separated (and_parts b (at_digit s) q).0)
      (λ q. alone (λ y. first ∙ (sym (ap (λ b. b && at_digit s) y) ∙ q)))

  pieces_rest : (ts : Trees) (h : Context) → EachPiece h.opened ts → IsLike f h.flags →
      FitAll ts Piece h →
      (v : Text) → Stops h.flags.ignore_space v →
      Rest μ h (written_all μ false ts h ++ v) (flags_after_all ts Piece h.flags) v (list_of ts)
  pieces_rest no_trees h k e d v i = no_more μ h v i
  pieces_rest (more_trees t ts) h k e d v i =
      let j = after t Piece h in
      let next = like_next t h e in
      let same : h.flags.ignore_space ≡ j.flags.ignore_space = same_space h.flags j.flags e next in
      let i2 = subst (λ x. Stops x v) same i in
      let u = written_all μ false ts j ++ v in
      let c = subst (λ x. Clear x u) (sym same) (pieces_clear ts j k.3 next d.1 v i2.clear) in
      let q = pieces_rest ts j k.3 next d.1 v i2 in
      let g = flags_after_all ts Piece j.flags in
      let ys = list_of ts in
      subst (λ z. Rest μ h z g v (t ∷ ys)) (sym (pieces_text t ts h v))
      (next_text (is_in_digits μ t) ts j k.3 next d.1 v (ends_no_digit v i.ends)
      (λ z. Rest μ h (written μ t Piece h ++ z) g v (t ∷ ys))
      (λ y. (k.0 h refl e).piece d.0 k.1 u v g ys c y q)
      (λ y. k.2 y h e d.0 u v g ys c q))

  two_listed : (t u : Tree) (ts : Trees) →
      trees_of (list_of (more_trees t (more_trees u ts))) ≡ more_trees t (more_trees u ts)
  two_listed t u ts = listed (more_trees t (more_trees u ts))

  pub concat_reads : (t u : Tree) (us : Trees) (h : Context) →
      EachPiece h.opened (more_trees t (more_trees u us)) →
      IsLike f h.flags → ReadsTree μ (row label.concat (more_trees t (more_trees u us))) h
  concat_reads t u us h k e =
      let ts = more_trees t (more_trees u us) in
      let x = row label.concat ts in
      let j = inner (settled h.flags x) h in
      let is : one_or concat (list_of ts) ≡ x = ap (row label.concat) (two_listed t u us) in
      by_branch μ x h refl refl (Fits x Whole h) (FitAll ts Piece) (written_all μ false ts h)
      (written_all μ false ts j) (flags_after_all ts Piece h.flags) (flags_after_all ts Piece j.flags) (list_of ts) is
      (pieces_begin t (more_trees u us) h k e) (pieces_rest ts h k e)
      (λ d v i. reads_only μ j _ v (flags_after_all ts Piece j.flags) x
      (subst (BranchAt μ j (written_all μ false ts j ++ v) (flags_after_all ts Piece j.flags) v) is
      (reads_branch μ j _ v (flags_after_all ts Piece j.flags) (list_of ts)
      (pieces_rest ts j k e d v i.stops))) i.no_bar)
      refl

  -- ---- branches

  branches_text : (t : Tree) (ts : Trees) (h : Context) (v : Text) →
      written_branches μ (more_trees t ts) h ++ v
      ≡ written μ t Branch h ++ (written_barred μ ts (after t Branch h) ++ v)
  branches_text t ts h v = append_assoc (written μ t Branch h) (written_barred μ ts (after t Branch h)) v

  barred_clear : (x : Bool) (ts : Trees) (h : Context) (v : Text) → Clear x v → Clear x (written_barred μ ts h ++ v)
  barred_clear x no_trees h v c = c
  barred_clear x (more_trees t ts) h v c = (stops_bar x _).clear

  branches_clear : (t : Tree) (ts : Trees) (h : Context) → EachBranch h.opened (more_trees t ts) → IsLike f h.flags →
      FitAll (more_trees t ts) Branch h → (v : Text) → Clear h.flags.ignore_space v →
      Clear h.flags.ignore_space (written_branches μ (more_trees t ts) h ++ v)
  branches_clear t ts h k e d v c =
      subst (Clear h.flags.ignore_space) (sym (branches_text t ts h v))
      ((k.0 h refl e).branch_clear d.0 (written_barred μ ts (after t Branch h) ++ v)
      (barred_clear h.flags.ignore_space ts (after t Branch h) v c))

  branches_at : (ts : Trees) (t : Tree) (h : Context) → EachBranch h.opened (more_trees t ts) → IsLike f h.flags →
      FitAll (more_trees t ts) Branch h → (v : Text) → Ends h.flags.ignore_space v →
      BranchesAt μ h (written_branches μ (more_trees t ts) h ++ v) (flags_after_all (more_trees t ts) Branch h.flags) v
      (t ∷ list_of ts)
  branches_at no_trees t h k e d v i =
      subst (λ z. BranchesAt μ h z (flags_after t Branch h.flags) v (t ∷ [])) (sym (branches_text t no_trees h v))
      (reads_last μ h (written μ t Branch h ++ v) v (flags_after t Branch h.flags) t
      ((k.0 h refl e).branch d.0 v i.stops) i.no_bar)
  branches_at (more_trees u us) t h k e d v i =
      let j = after t Branch h in
      let next = like_after t Branch f h.flags e in
      let same : h.flags.ignore_space ≡ j.flags.ignore_space = same_space h.flags j.flags e next in
      let w = written_branches μ (more_trees u us) j ++ v in
      let g = flags_after_all (more_trees u us) Branch j.flags in
      subst (λ z. BranchesAt μ h z g v (t ∷ u ∷ list_of us)) (sym (branches_text t (more_trees u us) h v))
      (reads_more μ h (written μ t Branch h ++ code "|" ∷ w) w v (flags_after t Branch h.flags) g t (u ∷ list_of us)
      ((k.0 h refl e).branch d.0 (code "|" ∷ w) (stops_bar h.flags.ignore_space w))
      (branches_at us u j k.1 next d.1 v (subst (λ x. Ends x v) same i)))

  alt_whole : (t u : Tree) (us : Trees) (h : Context) → EachBranch h.opened (more_trees t (more_trees u us)) →
      IsLike f h.flags → FitAll (more_trees t (more_trees u us)) Branch h → (v : Text) →
      Ends h.flags.ignore_space v →
      WholeAt μ h (written_branches μ (more_trees t (more_trees u us)) h ++ v)
      (flags_after_all (more_trees t (more_trees u us)) Branch h.flags) v
      (row label.alt (more_trees t (more_trees u us)))
  alt_whole t u us h k e d v i =
      let ts = more_trees t (more_trees u us) in
      let g = flags_after_all ts Branch h.flags in
      let is : choice (list_of ts) ≡ row label.alt ts = ap (row label.alt) (two_listed t u us) in
      subst (WholeAt μ h (written_branches μ ts h ++ v) g v) is
      (reads_whole μ h (written_branches μ ts h ++ v) v g (list_of ts) (branches_at (more_trees u us) t h k e d v i))

  pub alt_reads : (t u : Tree) (us : Trees) (h : Context) → EachBranch h.opened (more_trees t (more_trees u us)) →
      IsLike f h.flags → ReadsTree μ (row label.alt (more_trees t (more_trees u us))) h
  alt_reads t u us h k e =
      let ts = more_trees t (more_trees u us) in
      let x = row label.alt ts in
      let j = inner (settled h.flags x) h in
      by_whole μ x h refl refl (Fits x Whole h) (FitAll ts Branch) (written_branches μ ts h)
      (written_branches μ ts j) (flags_after_all ts Branch h.flags) (flags_after_all ts Branch j.flags)
      (branches_clear t (more_trees u us) h k e)
      (alt_whole t u us h k e)
      (alt_whole t u us j k e)
      refl
