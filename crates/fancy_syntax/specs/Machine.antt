-- The open groups, as the parser's stack holds them.
use Rattle.std.specs.Prelude.{◌≡◌, ℕ, ◌+◌, ◌==◌, ◌&&◌, not, if◌then◌else◌, Bool, true, false, List, []}
use Rattle.std.specs.Prelude.{◌∷◌, ◌++◌, length, Option, Some, None, Result, MatchResult}
use Prim.Native.Char.{code}
use Rattle.fancy_lex.specs.Comments.{comments}
use Rattle.fancy_lex.specs.ErrorTable.{bar_for_close_paren, body_missing}
use Rattle.fancy_lex.specs.LayoutSteps.{rest}
use Rattle.fancy_lex.specs.Text.{Text, bytes, reach_of, strip}
use Rattle.fancy_lex.specs.declared.error.ReadError.{ReadError}
use Rattle.fancy_grammar.specs.AtomStart.{atom_start}
use Rattle.fancy_grammar.specs.AtomStart as seen
use Rattle.fancy_grammar.specs.Grammar.{Branch, Piece, Inside, closed, is_condition}
use Rattle.fancy_grammar.specs.Grammar.{branches_of, conditional_of, clear_or_stopper}
use Rattle.fancy_grammar.specs.GroupKind.{GroupKind, group_node}
use Rattle.fancy_grammar.specs.Items.{Item, items}
use Rattle.fancy_grammar.specs.Join.{solid, is_empty}
use Rattle.fancy_grammar.specs.Slices.{Slice}
use Rattle.fancy_grammar.specs.Trivia.{comments_in_start}
use Rattle.fancy_syntax.specs.Decided.{decided, all_decided, made, IsDecidedKind}
use Rattle.fancy_syntax.specs.Found.{IsFound, group_opening, items_in}
use Rattle.fancy_syntax.specs.Log.{Log, branches_opened, group_opened, body_opened, body_begun, branch_begun, atom_closed}
use Rattle.fancy_syntax.specs.Log.{layout_passed}
use Rattle.fancy_syntax.specs.Recording.{PieceTo, PiecesTo, BranchTo, BranchesTo, AlternationTo, inside_recorded}
use Rattle.fancy_syntax.specs.Recording.{branch_recorded}
use Rattle.fancy_syntax.specs.Recording.{group_recorded, conditional_recorded, stopper_recorded, added}
use Rattle.fancy_syntax.specs.Parsed.{group_kind, state}
use Rattle.fancy_grammar.specs.Errors.{IsErrorAmong}
use Rattle.fancy_grammar.specs.State.{ends, skipped, State, at, Outcome, done, failed, mapped}
use Rattle.fancy_grammar.specs.Tree.{Tree, expression}
use Rattle.fancy_syntax.specs.View.{view, views}
use Rattle.fancy_syntax.specs.declared.grammar.found.FoundGroups.{FoundGroups}
use Rattle.fancy_syntax.specs.declared.grammar.frame.Enclosing.{Enclosing}
use Rattle.fancy_syntax.specs.declared.grammar.frame.Frame.{Frame}
use Rattle.fancy_syntax.specs.declared.grammar.frame.OpenPart as declared
use Rattle.fancy_syntax.specs.declared.grammar.frame.OpenPart.TheVariants as open_part
use Rattle.fancy_syntax.specs.declared.grammar.frame.PieceStart.{PieceStart}
use Rattle.fancy_syntax.specs.declared.grammar.parser.Parser.{Parser}

-- an open part
pub data OpenPart : Type 0 where
  top : OpenPart  -- the whole text
  group : GroupKind → ℕ → OpenPart  -- a group that opens at the reach
  condition : OpenPart  -- the condition of a conditional
  body : Tree → ℕ → OpenPart  -- the body of a conditional with this condition; that many bytes were left at its start
  first : OpenPart  -- the branch after `(?~|`
  second : Tree → OpenPart  -- the branch after that branch and a bar

abbrev pub part_of : declared.OpenPart → OpenPart
part_of open_part.Top = top
part_of (open_part.Group kind reach) = group (group_kind kind) reach
part_of open_part.Condition = condition
part_of (open_part.Body c left) = body (view c.value) left
part_of open_part.First = first
part_of (open_part.Second a) = second (view a.value)

-- the items that the opening of a part reads: a group, or those of a tree that the part keeps
abbrev pub items_opening : OpenPart → List Item
items_opening (group h p) = group_opening h p
items_opening (body c left) = items c
items_opening (second a) = items a
items_opening _ = []

-- the code's open part is this part of the grammar, with its groups decided
abbrev pub IsPart : Bool → declared.OpenPart → OpenPart → Type 0
IsPart i open_part.Top top = Unit {0}
IsPart i (open_part.Group kind reach) (group h p) = (h ≡ group_kind kind) × (p ≡ reach) × IsDecidedKind i kind
IsPart i open_part.Condition condition = Unit {0}
IsPart i (open_part.Body c left) (body r m) = (view c.value ≡ decided i r) × (left ≡ m)
IsPart i open_part.First first = Unit {0}
IsPart i (open_part.Second a) (second r) = view a.value ≡ decided i r
IsPart i _ _ = ⊥

-- whether the part holds a single branch, not an alternation
abbrev pub holds_one : OpenPart → Bool
holds_one first = true
holds_one (second a) = true
holds_one _ = false

abbrev pub is_second : OpenPart → Bool
is_second (second a) = true
is_second _ = false

-- the first is open before a bar, and the second after it; the tree is the branch before the bar
abbrev pub IsOpenedByBar : declared.OpenPart → declared.OpenPart → Tree → Type 0
IsOpenedByBar open_part.First g a = part_of g ≡ second a
IsOpenedByBar f g a = g ≡ f

-- the part that is open after a bar; the tree is the branch before the bar
abbrev pub opened_by_bar : OpenPart → Tree → OpenPart
opened_by_bar first a = second a
opened_by_bar p a = p

-- the branches after a bar
abbrev pub branches_at_bar : OpenPart → List Tree → Tree → List Tree
branches_at_bar first l a = l
branches_at_bar _ l a = l ++ a ∷ []

-- the error at a bar after the second branch of an absent expression, which allows none
abbrev pub IsErrorOfBar : OpenPart → Text → Outcome Tree → Type 0
IsErrorOfBar (second a) t o = o ≡ failed (bar_for_close_paren t)
IsErrorOfBar _ t o = ⊥

-- the outcome of reading the open part; the record goes from the first log to the second
abbrev pub Part : OpenPart → ℕ → State → Outcome Tree → Log → Log → Type 0
Part first d s o l m = BranchTo d s o l m
Part (second a) d s o l m = BranchTo d s o l m
Part top d s o l m = AlternationTo d s o l m
Part (group h p) d s o l m = AlternationTo d s o l m
Part condition d s o l m = AlternationTo d s o l m
Part (body c left) d s o l m = AlternationTo d s o l m

-- a piece at s opens this part, and the contents of the part begin at t; l is the log before, and the last argument the
-- log after
pub data OpensPart : ℕ → State → Log → OpenPart → State → Log → Type 0 where
  a_group : {d s l t u h : _} → skipped s ≡ rest u → atom_start d (at s u) ≡ seen.of_kind h t →
      OpensPart d s l (group h (reach_of u)) t (group_opened h (at s u) t (layout_passed s l))
  a_condition : {d s l t u : _} → skipped s ≡ rest u → atom_start d (at s u) ≡ seen.condition t →
      OpensPart d s l condition t (branches_opened (at s u) t (layout_passed s l))
  a_body : {d s l t u c : _} → skipped s ≡ rest u → atom_start d (at s u) ≡ seen.body c t →
      OpensPart d s l (body c (bytes t.rest)) t (body_opened (at s u) t (layout_passed s l))
  after_condition : {d s l t m v c : _} → OpensPart d s l condition t m → (i : Inside d t (done c v)) →
      OpensPart d s l (body c (bytes v.rest)) v (body_begun (reach_of v.rest) (inside_recorded i m))
  a_branch : {d s l t u : _} → skipped s ≡ rest u → atom_start d (at s u) ≡ seen.absent_branch t →
      OpensPart d s l first t (branches_opened (at s u) t (layout_passed s l))
  after_branch : {d s l t m v u a : _} → OpensPart d s l first t m → (b : Branch (d + 1) t (done a v)) →
      strip (code "|") v.rest ≡ Some u →
      OpensPart d s l (second a) (at v u) (branch_begun (reach_of u) (branch_recorded b m))

-- the body of a conditional is missing: it takes no byte, and the condition needs a body
abbrev pub lacks_body : OpenPart → State → Bool
lacks_body (body c left) s = bytes s.rest == left && not (is_condition c)
lacks_body _ s = false

-- the tree of the part, made of the tree of its contents
abbrev pub node_of_part : OpenPart → Tree → Tree
node_of_part top r = r
node_of_part (group h p) r = group_node h p r
node_of_part condition r = r
node_of_part (body c left) r = conditional_of c (branches_of r).0 (branches_of r).1
node_of_part first r = clear_or_stopper r
node_of_part (second a) r = expression a r

-- whether the atom continues after the part: a body follows a condition
abbrev pub has_body_next : OpenPart → Bool
has_body_next condition = true
has_body_next _ = false

-- the outcome when the part ends with the tree r at s
abbrev pub ended_part : OpenPart → Tree → State → Outcome Tree
ended_part p r s =
    if lacks_body p s then failed (body_missing s.rest)
    else closed (node_of_part p r) s

-- the tree that the code makes of its open part, from the tree of the contents
abbrev pub made_of : declared.OpenPart → Tree → Tree
made_of (open_part.Group kind reach) r = made kind reach r
made_of g r = node_of_part (part_of g) r

-- the outcome in the code's trees when its open part ends with the tree r at s
abbrev pub ended_with : declared.OpenPart → Tree → State → Outcome Tree
ended_with g r s = if lacks_body (part_of g) s then failed (body_missing s.rest) else closed (made_of g r) s

-- the log when the part ends with the tree r; its parenthesis begins at the first reach and ends at the second
abbrev pub part_recorded : OpenPart → Tree → ℕ → ℕ → Log → Log
part_recorded top r paren end l = l
part_recorded (group h p) r paren end l = group_recorded h end l
part_recorded condition r paren end l = body_begun end l
part_recorded (body c left) r paren end l = conditional_recorded r paren end l
part_recorded first r paren end l = stopper_recorded r end l
part_recorded (second a) r paren end l = atom_closed end false l

-- a step from s to t reads a piece, whose tree follows the trees ts unless it is Empty, or opens a part of a piece; the
-- trees are then us, the record goes from l to m, and js are the items that are read
abbrev pub IsStep : Bool → ℕ → State → Log → List Tree → Option declared.OpenPart → List Tree → State → Log → List Item → Type 0
IsStep i d s l ts None us t m js =
    (r : Tree) × (n : Log) × PieceTo d s (done r t) l n × (us ≡ ts ++ solid (r ∷ [])) × (m ≡ added r n)
    × (js ≡ items_in (solid (r ∷ [])))
IsStep i d s l ts (Some g) us t m js =
    (p : OpenPart) × IsPart i g p × OpensPart d s l p t m × (us ≡ ts) × (js ≡ items_opening p)

-- a step from s to t, whose trees are decided, with a log and with items of which P holds, or the error of a piece at s
abbrev pub GivesStep : Bool → Result (Option declared.OpenPart) ReadError → ℕ → State → Log → (ts all : List Tree) → State →
    (Log → List Item → Type 0) → Type 0
GivesStep i r d s l ts all t P =
    MatchResult r (λ opened. (m : Log) × (us : List Tree) × (js : List Item) × (all ≡ all_decided i us)
    × IsStep i d s l ts opened us t m js × P m js) (λ e. IsErrorAmong e (Piece d s))

-- the outcome is a tree, of which P holds, read up to t, and it follows the trees below unless it is Empty; or it is the
-- error of the result
abbrev pub EndsPiece : Result (Unit {0}) ReadError → Outcome Tree → (below all : List Tree) → State → (Tree → Type 0) →
    Type 0
EndsPiece r o below all t P =
    MatchResult r (λ _. (a : Tree) × (o ≡ done a t) × (all ≡ below ++ solid (a ∷ [])) × P a)
    (λ e. IsErrorAmong e (λ q. o ≡ q))

-- what has been read of a part that begins at s: its branches, and the pieces of the branch that is open at t; the
-- record goes from the log `start` to l
pub record ReadSoFar (d : ℕ) (p : OpenPart) (s : State) (start : Log) (branches pieces : List Tree) (t : State)
    (l : Log) : Type 0 where
  pub begin : State
  pub before : Log
  pub read : List Tree
  pub same : solid read ≡ pieces
  pub branch : (o : Outcome (List Tree)) (m : Log) → PiecesTo d t o l m →
      PiecesTo d begin (mapped (λ l. read ++ l) o) before m
  pub all : (o : Outcome (List Tree)) (m : Log) → BranchesTo d begin o before m →
      BranchesTo d s (mapped (λ l. branches ++ l) o) start m
  pub one : holds_one p ≡ true → (begin ≡ s) × (branches ≡ []) × (before ≡ start)
  pub slice : Slice s.rest t.rest

-- the piece begins at the state
abbrev pub Began : PieceStart → State → Type 0
Began p s = (p.left ≡ bytes s.rest) × (p.flags ≡ s.flags)

-- which trees among all are the group's own: those above the trees of the groups around it, and its pieces above its
-- branches
abbrev pub HoldsTrees : Frame → (trees below branches pieces : List Tree) → Type 0
HoldsTrees f trees below branches pieces =
    (trees ≡ below ++ branches ++ pieces) × (f.branches ≡ length below) × (f.pieces ≡ length (below ++ branches))

-- The parts and the trees here are the grammar's. Those of the code are the same with their groups decided.

-- the open groups of a text that begins at `start`, with the log `none`, and the trees that they hold. The innermost
-- part begins at s, at depth d, with the log l, after the items is. Its own trees are not among these.
pub data OpenGroups (start : State) (none : Log) : List Enclosing → List Tree → OpenPart → ℕ → State → Log →
    List Item → Type 0
  where
    outermost : OpenGroups start none [] [] top 0 start none []
    inner : {d s l t m v n p q all outer trees below branches pieces is js : _} (e : Enclosing) → all ≡ outer ++ e ∷ [] →
        HoldsTrees e.frame trees below branches pieces →
        IsPart start.flags.ignore_numbered_groups e.frame.open_part q → OpenGroups start none outer below q d s l is →
        ReadSoFar d q s l branches pieces t m → Began e.piece t → ends t.rest ≡ false →
        OpensPart d t m p v n → js ≡ (is ++ items_in (branches ++ pieces)) ++ items_opening p →
        OpenGroups start none all trees p (d + 1) v n js

-- what has been read of a text that begins at `start`, up to t: the stack, the trees that all groups hold, the innermost
-- group, and the items; the record goes from `none` to l
pub record Running (start : State) (none : Log) (stack : List Enclosing) (f : Frame) (trees : List Tree) (t : State)
    (l : Log) (is : List Item) : Type 0 where
  pub depth : ℕ
  pub begin : State
  pub before : Log
  pub items_before : List Item
  pub below : List Tree
  pub branches : List Tree
  pub pieces : List Tree
  pub is_depth : depth ≡ length stack
  pub holds : HoldsTrees f trees below branches pieces
  pub part : OpenPart
  pub is_part : IsPart start.flags.ignore_numbered_groups f.open_part part
  pub levels : OpenGroups start none stack below part depth begin before items_before
  pub reading : ReadSoFar depth part begin before branches pieces t l
  pub same_items : is ≡ items_before ++ items_in (branches ++ pieces)

-- the same for the fields of the parser: its trees are these with their groups decided, and its groups were found in the
-- items
pub record HasRead (start : State) (none : Log) (r : Parser) (l : Log) : Type 0 where
  pub is : List Item
  pub trees : List Tree
  pub same : views r.trees.items ≡ all_decided start.flags.ignore_numbered_groups trees
  pub running : Running start none r.stack.items r.frame trees (state r.current) l is
  pub found : IsFound start.flags.ignore_numbered_groups r.found is

-- the same, and P holds of the log
abbrev pub HasReadTo : State → Log → Parser → (Log → Type 0) → Type 0
HasReadTo start none r P = (l : Log) × HasRead start none r l × P l

-- an alternation that begins at `start` is read up to t: its raw tree, decided, is this tree, and this was found in its
-- items; the record goes from `none` to a log of which P holds
abbrev pub IsReadTo : State → Log → Tree → State → FoundGroups → (Log → Type 0) → Type 0
IsReadTo start none tree t found P =
    (r : Tree) × (m : Log) × AlternationTo 0 start (done r t) none m × P m
    × (tree ≡ decided start.flags.ignore_numbered_groups r) × IsFound start.flags.ignore_numbered_groups found (items r)

-- the outcome is the last of all trees, read up to the state, and those below it stay; or it is the error of the result
abbrev pub TurnsLast : Result (Unit {0}) ReadError → (all below : List Tree) → State → Outcome Tree → Type 0
TurnsLast r all below s o =
    MatchResult r (λ _. (t : Tree) × (all ≡ below ++ t ∷ []) × (o ≡ done t s)) (λ e. IsErrorAmong e (λ q. o ≡ q))

-- the leaf r, which is no Empty, is at s without layout before it, and is read up to t
pub record IsPlainLeaf (s : State) (r : Tree) (t : State) : Type 0 where
  pub more : ends s.rest ≡ false
  pub no_layout : skipped s ≡ rest s.rest
  pub no_comments : comments s.flags.ignore_space s.rest ≡ []
  pub leaf : (d : ℕ) → atom_start d s ≡ seen.read (done r t)
  pub solid : is_empty r ≡ false
  pub no_inner : comments_in_start s.flags s.rest (reach_of t.rest) ≡ []
