-- What is recorded about the positions of nodes when a text is read: the events of the log in the order of the
-- derivation.
use Rattle.std.specs.Prelude.{◌≡◌, ℕ, zero, suc, true, false, ◌||◌, ◌&&◌, List, ◌∷◌, length, None}
use Rattle.std.specs.Prelude.{if◌then◌else◌}
use Rattle.fancy_lex.specs.Reading.{choose}
use Rattle.fancy_lex.specs.Text.{Text, bytes, reach_of}
use Rattle.fancy_lex.specs.declared.counts.Counts.{Counts}
use Rattle.fancy_grammar.specs.AtomStart.{AtomStart, nothing, read, of_kind, condition, body, absent_branch}
use Rattle.fancy_grammar.specs.Grammar.{Alternation, alternation, Branches, last, more, branch_error, Branch, branch}
use Rattle.fancy_grammar.specs.Grammar.{Pieces, stop, next, piece_error, Piece, piece, layout_error, Atom, atom, AtomOf}
use Rattle.fancy_grammar.specs.Grammar.{a_nothing, a_read, a_group, a_condition, condition_error, a_body, two_branches}
use Rattle.fancy_grammar.specs.Grammar.{one_branch, absent_error, Inside, inside, Body, the_body, branches_of}
use Rattle.fancy_grammar.specs.GroupKind.{GroupKind, capture, flag_group}
use Rattle.fancy_grammar.specs.Join.{is_empty, solid}
use Rattle.fancy_grammar.specs.Quantified.{quant, suffix, is_repeatable, is_swapped, is_unmoved, max_adjacent}
use Rattle.fancy_grammar.specs.Spans.{counts_ahead, end_of, if_done, quantifier_end}
use Rattle.fancy_grammar.specs.State.{State, at, Outcome}
use Rattle.fancy_grammar.specs.Tree.{Tree, alt, list_of}
use Rattle.fancy_grammar.specs.Trivia.{flags_of_atom, closing_of, layout_end, after_layout, inner_at, inner_of_counts}
use Rattle.fancy_syntax.specs.Log.{Log, leaf_recorded, left_out, wrapped, branches_opened, body_opened, body_begun, branch_begun}
use Rattle.fancy_syntax.specs.Log.{branch_ended, choice_ended, body_split, branch_lacked, part_dropped, atom_closed}
use Rattle.fancy_syntax.specs.Log.{atom_ended, pass, layout_passed, group_opened, text_dropped, conditional_dropped}

-- ---- quantifiers

-- after an atom that ignores a quantifier with these counts, which begin at w and end at u
abbrev pub quantifier_dropped : Text → State → Counts → Log → Log
quantifier_dropped w u c l =
    let k = layout_passed u (pass (inner_of_counts c w u.rest) (text_dropped (reach_of w) (reach_of u.rest) l)) in
    if_done (suffix u c) (λ m v. text_dropped (layout_end u) (reach_of v.rest) k) k

-- after the atom a, with these counts, which begin at w
abbrev pub counted_recorded : Text → Tree → State → Log → Counts × Text → Log
counted_recorded w a s l (c, t) =
    let u = at s t in
    let k = layout_passed u (pass (inner_of_counts c w t) l) in
    if is_repeatable s.flags a
    then if_done (suffix u c) (λ m v. wrapped (quantifier_end t m v) (is_swapped s.flags c || m.possessive) k) k
    else quantifier_dropped w u c l

-- after the quantifier that follows layout, if one does
abbrev pub quant_recorded : Tree → State → Log → Log
quant_recorded a s l =
    let m = layout_passed s l in choose (counts_ahead s) (counted_recorded (after_layout s) a s m) m

-- after adjacent quantifiers, of which k more may follow
abbrev pub adjacent_recorded : ℕ → Tree → State → Log → Log
adjacent_recorded zero a s l = quant_recorded a s l
adjacent_recorded (suc k) a s l =
    let m = quant_recorded a s l in
    if_done (quant (bytes s.rest) a s) (λ b t. if is_unmoved s t then m else adjacent_recorded k b t m) m

-- after all quantifiers of a piece; that many bytes were left at the start of the piece
abbrev pub quants_recorded : ℕ → Outcome Tree → Log → Log
quants_recorded left q l = if_done q (λ a s.
    let m = quant_recorded a s l in
    if_done (quant left a s) (λ b t. if t.flags.oniguruma_mode then adjacent_recorded max_adjacent b t m else m) m) l

-- ---- the ends of groups, conditionals and branches

-- a group, whose closing parenthesis ends at the reach
abbrev pub group_recorded : GroupKind → ℕ → Log → Log
group_recorded flag_group end l = atom_ended (pass (closing_of flag_group end) l)
group_recorded (capture None) end l = atom_closed end true (pass (closing_of (capture None) end) l)
group_recorded _ end l = atom_closed end false l

-- the branches of a conditional's body, which ends at the reach
abbrev pub body_separated : Tree → ℕ → Log → Log
body_separated (alt ts) end l = body_split (length (list_of ts)) l
body_separated r end l = branch_lacked end l

-- a conditional, whose closing parenthesis begins at the first reach and ends at the second
abbrev pub conditional_recorded : Tree → ℕ → ℕ → Log → Log
conditional_recorded r paren end l =
    let b = branches_of r in
    let m = body_separated r paren l in
    if is_empty b.0 && is_empty b.1 then atom_ended (conditional_dropped end m) else atom_closed end false m

-- a branch after `(?~|` that no other branch follows
abbrev pub stopper_recorded : Tree → ℕ → Log → Log
stopper_recorded a end l = atom_closed end false (if is_empty a then part_dropped l else l)

-- after all branches of a part; the last one ends at the reach
abbrev pub choice_recorded : List Tree → ℕ → Log → Log
choice_recorded (r ∷ q ∷ rs) end l = choice_ended end l
choice_recorded _ end l = l

-- a piece after others: an Empty is left out
abbrev pub added : Tree → Log → Log
added r l = if is_empty r then left_out l else l

-- an atom that is read at once, at s: a leaf, or inline flags; without the comments in it, and with them
abbrev pub token_read : State → Outcome Tree → Log → Log
token_read s q l = pass (flags_of_atom s q) (leaf_recorded (reach_of s.rest) (end_of q) l)

abbrev pub atom_read : State → Outcome Tree → Log → Log
atom_read s q l = pass (inner_at s (end_of q)) (token_read s q l)

-- the start of an atom at s: a whole atom without branches, or what is before the branches of any other
abbrev pub atom_begun : State → AtomStart → Log → Log
atom_begun s nothing l = leaf_recorded (reach_of s.rest) (reach_of s.rest) l
atom_begun s (read o) l = atom_read s o l
atom_begun s (of_kind h t) l = group_opened h s t l
atom_begun s (condition t) l = branches_opened s t l
atom_begun s (body c t) l = body_opened s t l
atom_begun s (absent_branch t) l = branches_opened s t l

-- ---- the productions

abbrev mutual
  pub alternation_recorded : {d : ℕ} {s : State} {o : Outcome Tree} → Alternation d s o → Log → Log
  alternation_recorded (alternation {q} b) l =
      let m = branches_recorded b l in if_done q (λ rs t. choice_recorded rs (reach_of t.rest) m) m

  pub branches_recorded : {d : ℕ} {s : State} {o : Outcome (List Tree)} → Branches d s o → Log → Log
  branches_recorded (last b e) l = branch_recorded b l
  branches_recorded (more {u} b e m) l = branches_recorded m (branch_begun (reach_of u) (branch_recorded b l))
  branches_recorded (branch_error b) l = branch_recorded b l

  pub branch_recorded : {d : ℕ} {s : State} {o : Outcome Tree} → Branch d s o → Log → Log
  branch_recorded (branch {q} p) l =
      let m = pieces_recorded p l in if_done q (λ ps t. branch_ended (length (solid ps)) (reach_of t.rest) m) m

  pub pieces_recorded : {d : ℕ} {s : State} {o : Outcome (List Tree)} → Pieces d s o → Log → Log
  pieces_recorded (stop e) l = l
  pieces_recorded (next {r} e a m) l = pieces_recorded m (added r (piece_recorded a l))
  pieces_recorded (piece_error e a) l = piece_recorded a l

  pub piece_recorded : {d : ℕ} {s : State} {o : Outcome Tree} → Piece d s o → Log → Log
  piece_recorded {s} (piece {q} i a) l = quants_recorded (bytes s.rest) q (atom_recorded a (layout_passed s l))
  piece_recorded (layout_error i) l = l

  pub atom_recorded : {d : ℕ} {s : State} {o : Outcome Tree} → Atom d s o → Log → Log
  atom_recorded (atom e a) l = atom_of_recorded a l

  pub atom_of_recorded : {k : AtomStart} {d : ℕ} {s : State} {o : Outcome Tree} → AtomOf k d s o → Log → Log
  atom_of_recorded {s} a_nothing l = leaf_recorded (reach_of s.rest) (reach_of s.rest) l
  atom_of_recorded {s} {o} a_read l = atom_read s o l
  atom_of_recorded {s} {o} (a_group {t} {h} i) l =
      group_recorded h (end_of o) (inside_recorded i (group_opened h s t l))
  atom_of_recorded {s} (a_condition {t} {v} i b) l =
      body_recorded b
      (body_begun (reach_of v.rest) (inside_recorded i (branches_opened s t l)))
  atom_of_recorded {s} (condition_error {t} i) l = inside_recorded i (branches_opened s t l)
  atom_of_recorded {s} (a_body {t} b) l = body_recorded b (body_opened s t l)
  atom_of_recorded {s} {o} (two_branches {t} {u} b e m) l =
      atom_closed (end_of o) false (branch_recorded m
      (branch_begun (reach_of u) (branch_recorded b (branches_opened s t l))))
  atom_of_recorded {s} {o} (one_branch {t} {a} b e) l =
      stopper_recorded a (end_of o) (branch_recorded b (branches_opened s t l))
  atom_of_recorded {s} (absent_error {t} b) l = branch_recorded b (branches_opened s t l)

  pub inside_recorded : {d : ℕ} {s : State} {o : Outcome Tree} → Inside d s o → Log → Log
  inside_recorded (inside a) l = alternation_recorded a l

  pub body_recorded : {d : ℕ} {c : Tree} {s : State} {o : Outcome Tree} → Body d c s o → Log → Log
  body_recorded {o} (the_body {q} a) l =
      let m = alternation_recorded a l in if_done q (λ r v. conditional_recorded r (reach_of v.rest) (end_of o) m) m

-- ---- derivations with the log before and the log after

abbrev pub PieceTo : ℕ → State → Outcome Tree → Log → Log → Type 0
PieceTo d s o l m = (a : Piece d s o) × (piece_recorded a l ≡ m)

abbrev pub PiecesTo : ℕ → State → Outcome (List Tree) → Log → Log → Type 0
PiecesTo d s o l m = (a : Pieces d s o) × (pieces_recorded a l ≡ m)

abbrev pub BranchTo : ℕ → State → Outcome Tree → Log → Log → Type 0
BranchTo d s o l m = (a : Branch d s o) × (branch_recorded a l ≡ m)

abbrev pub BranchesTo : ℕ → State → Outcome (List Tree) → Log → Log → Type 0
BranchesTo d s o l m = (a : Branches d s o) × (branches_recorded a l ≡ m)

abbrev pub AlternationTo : ℕ → State → Outcome Tree → Log → Log → Type 0
AlternationTo d s o l m = (a : Alternation d s o) × (alternation_recorded a l ≡ m)
