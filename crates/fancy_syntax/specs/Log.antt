-- What is recorded about the positions of nodes, and of what no node has, while a pattern is read, and how each thing
-- that is read changes the record.
use Rattle.std.specs.Prelude.{ℕ, ◌+◌, ◌-◌, ◌==◌, nat_lt, min, Bool, false, if◌then◌else◌, List, [], ◌∷◌, ◌++◌}
use Rattle.std.specs.Prelude.{length, take, drop, insert, remove, Option, Some, None}
use Rattle.std.specs.List.{slice_get, slice_index_or}
use Rattle.fancy_lex.specs.Text.{reach_of}
use Rattle.fancy_grammar.specs.Spans.{Span, condition_span}
use Rattle.fancy_grammar.specs.GroupKind.{GroupKind}
use Rattle.fancy_grammar.specs.State.{State}
use Rattle.fancy_grammar.specs.Trivia.{Passed, part, dropped, comments_at, inner_at, opening_of, with_dropped, filled}
use Rattle.fancy_syntax.specs.declared.grammar.recorded.FirstBar.{FirstBar}
use Rattle.fancy_syntax.specs.declared.grammar.recorded.ConditionPart.{ConditionPart}
use Rattle.fancy_syntax.specs.declared.grammar.recorded.LastPiece.{LastPiece}
use Rattle.fancy_syntax.specs.declared.grammar.recorded.Recorded.{Recorded}
use Rattle.fancy_syntax.specs.declared.grammar.recorded.Recorded.TheVariants.{Node, Unnamed, Bar}
use Rattle.fancy_syntax.specs.declared.grammar.recorded.Open.{Open}

-- the nodes that have been read, each tree in preorder, and after those of an Alt its first bar; the open atoms, with the
-- innermost one separate; the last piece; what was passed that may have no node
pub record Log : Type 0 where
  pub recorded : List Recorded
  pub around : List Open
  pub open_atom : Open
  pub last : LastPiece
  pub passed : List Passed

-- the log before anything is read of a text that begins at the reach
abbrev pub started : ℕ → Log
started start = record {
  recorded = [];
  around = [];
  open_atom = record {
    start = start;
    height = 0;
    passed = 0;
    condition = None;
    part = start;
    branches = 0;
    bar = None;
    branch = start;
    pieces = 0;
  };
  last = record { start = start; height = 0 };
  passed = [];
}

-- the spans of the nodes of the parsed tree, in reaches; if only named groups have a number, the other groups have no
-- node
abbrev pub shown : Bool → List Recorded → List Span
shown named [] = []
shown named (Node start end ∷ xs) = record { start = start; end = end } ∷ shown named xs
shown named (Unnamed start end ∷ xs) =
    if named then shown named xs else record { start = start; end = end } ∷ shown named xs
shown named (Bar b ∷ xs) = shown named xs

-- an entry inserted after that many others, or after all if there are fewer
abbrev pub put_at : ℕ → Recorded → List Recorded → List Recorded
put_at height x xs = insert xs (min height (length xs)) x

abbrev pub put : ℕ → Recorded → Log → Log
put height x l = record l { recorded = put_at height x l.recorded }

-- ---- what no node has

abbrev pub pass : List Passed → Log → Log
pass xs l = record l { passed = l.passed ++ xs }

-- the comments in the layout at the state
abbrev pub layout_passed : State → Log → Log
layout_passed s l = pass (comments_at s) l

-- the text between two reaches, unless it is empty, leaves nothing in the tree
abbrev pub text_dropped : ℕ → ℕ → Log → Log
text_dropped start end l = record l { passed = with_dropped start end l.passed }

-- ---- leaves and quantifiers

abbrev pub leaf_recorded : ℕ → ℕ → Log → Log
leaf_recorded start end l = record l {
  recorded = l.recorded ++ Node start end ∷ [];
  last = record { start = start; height = length l.recorded };
}

abbrev pub left_out : Log → Log
left_out l = record l { recorded = take l.last.height l.recorded }

-- the last piece in a node that ends at the reach
abbrev pub under_node : ℕ → Log → Log
under_node end l = put l.last.height (Node l.last.start end) l

abbrev pub wrapped : ℕ → Bool → Log → Log
wrapped end atomic l = under_node end (if atomic then under_node end l else l)

-- ---- atoms and their parts

-- the open atom is changed
abbrev pub with_open : (Open → Open) → Log → Log
with_open f l = record l { open_atom = f l.open_atom }

-- a part begins at the reach, before which that much is recorded
abbrev pub begun : ℕ → ℕ → Open → Open
begun start height o = record o { part = start; branches = height; bar = None; branch = start; pieces = height }

abbrev pub part_begun : ℕ → Log → Log
part_begun start l = with_open (begun start (length l.recorded)) l

-- an atom that begins at the first reach, and its first part at the second
abbrev pub atom_opened : ℕ → ℕ → Log → Log
atom_opened start inside l =
    part_begun inside
    (with_open (λ o. record o { start = start; height = length l.recorded; passed = length l.passed })
    (record l { around = l.around ++ l.open_atom ∷ [] }))

-- a group of this kind that begins at s, and its contents at t, with the comments in its opening
abbrev pub group_opened : GroupKind → State → State → Log → Log
group_opened h s t l =
    pass (inner_at s (reach_of t.rest)) (pass (opening_of h s t) (atom_opened (reach_of s.rest) (reach_of t.rest) l))

-- any other atom that begins at s, and whose first part, a condition or a branch after `(?~|`, begins at t
abbrev pub branches_opened : State → State → Log → Log
branches_opened s t l = pass (inner_at s (reach_of t.rest)) (atom_opened (reach_of s.rest) (reach_of t.rest) l)

-- the open part, a condition, has ended, and after its closing parenthesis the body begins at the reach
abbrev pub body_begun : ℕ → Log → Log
body_begun start l = part_begun start (with_open (λ o. record o {
  condition = Some (record { start = o.part; closing = start + 1; passed = length l.passed });
}) l)

-- a conditional that begins at s; its body begins at t, after a condition that is no alternation
abbrev pub body_opened : State → State → Log → Log
body_opened s t l =
    let p = condition_span s t in
    body_begun (reach_of t.rest)
    (leaf_recorded p.start p.end (pass (inner_at s p.start) (atom_opened (reach_of s.rest) p.start l)))

-- the open atom becomes the last piece, and the atom around it is the open one
abbrev pub atom_ended : Log → Log
atom_ended l =
    let outer = length l.around - 1 in
    record {
      recorded = l.recorded;
      around = take outer l.around;
      open_atom = slice_index_or l.around outer l.open_atom;
      last = record { start = l.open_atom.start; height = l.open_atom.height };
      passed = l.passed;
    }

abbrev pub own_node : Bool → ℕ → ℕ → Recorded
own_node unnamed start end = if unnamed then Unnamed start end else Node start end

abbrev pub atom_closed : ℕ → Bool → Log → Log
atom_closed end unnamed l = atom_ended (put l.open_atom.height (own_node unnamed l.open_atom.start end) l)

-- ---- branches

-- the first bar of a part: the earlier one if there is one; else this bar, after which a branch begins at the reach,
-- and before which that much is recorded of the branch
abbrev pub first_bar : Option FirstBar → ℕ → ℕ → FirstBar
first_bar None start before = record { past = start; before = before }
first_bar (Some b) start before = b

abbrev pub branch_begun : ℕ → Log → Log
branch_begun start l = with_open (λ o. record o {
  bar = Some (first_bar o.bar start (length l.recorded - o.branches));
  branch = start;
  pieces = length l.recorded;
}) l

abbrev pub branch_ended : ℕ → ℕ → Log → Log
branch_ended pieces end l =
    if pieces == 1 then l else put l.open_atom.pieces (Node l.open_atom.branch end) l

abbrev pub with_bar : Option FirstBar → List Recorded → List Recorded
with_bar None xs = xs
with_bar (Some b) xs = xs ++ Bar b ∷ []

abbrev pub choice_ended : ℕ → Log → Log
choice_ended end l = put l.open_atom.branches (Node l.open_atom.part end)
    (record l { recorded = with_bar l.open_atom.bar l.recorded })

-- ---- the body of a conditional

-- an Alt of that many branches, which ends at the reach, was removed from that height: if several branches follow its
-- first bar, an Alt of these is inserted
abbrev pub others_put : ℕ → ℕ → FirstBar → ℕ → List Recorded → List Recorded
others_put height branches b end xs =
    if nat_lt branches 3 then xs else put_at (height + b.before) (Node b.past end) xs

-- the Alt at that height, whose first bar was removed, is removed, and if several branches follow its first, an Alt of
-- these is inserted
abbrev pub alt_split : ℕ → ℕ → FirstBar → Option Recorded → List Recorded → List Recorded
alt_split height branches b (Some (Node start end)) xs = others_put height branches b end (remove xs height)
alt_split height branches b _ xs = xs

abbrev pub bar_split : ℕ → ℕ → Option Recorded → List Recorded → List Recorded
bar_split height branches (Some (Bar b)) xs = alt_split height branches b (slice_get xs height) xs
bar_split height branches _ xs = xs

-- the body that ends, an Alt of that many branches, is replaced by its first branch and the choice among the others
abbrev pub body_split : ℕ → Log → Log
body_split branches l =
    let before = length l.recorded - 1 in
    record l {
      recorded = bar_split l.open_atom.branches branches (slice_get l.recorded before) (take before l.recorded);
    }

abbrev pub branch_lacked : ℕ → Log → Log
branch_lacked end l = record l { recorded = l.recorded ++ Node end end ∷ [] }

abbrev pub part_dropped : Log → Log
part_dropped l = record l { recorded = take l.open_atom.branches l.recorded }

-- the text between two reaches, unless it is empty, inserted after that many parts, or after all if there are fewer
abbrev pub inserted : ℕ → ℕ → ℕ → List Passed → List Passed
inserted height start end p =
    if start == end then p else insert p (min height (length p)) (part start end dropped false)

abbrev pub text_inserted : ℕ → ℕ → ℕ → Log → Log
text_inserted height start end l = record l { passed = inserted height start end l.passed }

abbrev pub text_filled : ℕ → ℕ → List Passed → Log → Log
text_filled start end parts l = record l { passed = filled start end parts l.passed }

-- the parts in an atom that ends at the reach, with its opening and the text after its condition, if it has one
abbrev pub body_dropped : Open → ℕ → Option ConditionPart → List Passed → List Passed
body_dropped o end None p = p
body_dropped o end (Some c) p =
    let n = min c.passed (length p) in
    filled c.closing end (drop n p) (inserted o.passed o.start c.start (take n p))

-- the open atom is a conditional that ends at the reach, of which only the condition leaves nodes
abbrev pub conditional_dropped : ℕ → Log → Log
conditional_dropped end l = record l {
  recorded = take l.open_atom.branches l.recorded;
  passed = body_dropped l.open_atom end l.open_atom.condition l.passed;
}
