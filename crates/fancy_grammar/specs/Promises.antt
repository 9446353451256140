-- What a parse of a pattern promises: of its tree, of the spans of its nodes, of what no node has, and of its error.
use Rattle.std.specs.Prelude.{◌≡◌, ℕ, List, chars, length}
use Rattle.std.specs.List.{AllByRecursion}
use Rattle.fancy_lex.specs.Located.{Kind}
use Rattle.fancy_lex.specs.declared.error.Error.{Error}
use Rattle.fancy_lex.specs.declared.flags.Flags.{Flags}
use Rattle.fancy_grammar.specs.Grammar.{DerivesTree}
use Rattle.fancy_grammar.specs.GroupInfo.{GroupInfo}
use Rattle.fancy_grammar.specs.ParseResult.{IsTreeOf, IsErrorOf, IsOnlyError, IsPositionedIn}
use Rattle.fancy_grammar.specs.ParsedTree.{IsParsedTreeWith, HasGroupsOf, IsSmall}
use Rattle.fancy_grammar.specs.Segments.{HasEveryByte}
use Rattle.fancy_grammar.specs.Preorder.{preorder}
use Rattle.fancy_grammar.specs.Spans.{Span, AreSpansOf, IsCutOut, Nests}
use Rattle.fancy_grammar.specs.Tree.{Tree}
use Rattle.fancy_grammar.specs.Trivia.{Trivium, IsTriviaOf, IsPartOf, AreInOrder}

-- the tree of a pattern, which is given by its bytes, and the group information
pub record IsParsed (f : Flags) (pattern : List ℕ) (t : Tree) (m : GroupInfo) : Type 0 where
  -- the pattern has this tree, with this group information
  pub found : IsTreeOf f (chars pattern) t m
  -- the pattern has no other tree and no other group information
  pub only : (e : Tree) (k : GroupInfo) → IsTreeOf f (chars pattern) e k → (e ≡ t) × (k ≡ m)
  -- the pattern has no error
  pub exact : (k : Kind) (p : ℕ) → IsErrorOf f (chars pattern) k p → ⊥
  -- the tree of a pattern of n bytes has at most 2 n + 1 nodes and at most 832 levels
  pub bounds : IsSmall t (length pattern)
  -- what is true of every parsed tree is true of it, and the group information is that of its nodes
  pub returned : IsParsedTreeWith t m
  -- its groups are those of the raw tree that the grammar derives
  pub groups : (r : Tree) → DerivesTree f (chars pattern) r → HasGroupsOf f (chars pattern) r t

-- the spans of the nodes of the tree, in preorder
pub record AreParsedSpans (f : Flags) (pattern : List ℕ) (t : Tree) (l : List Span) : Type 0 where
  -- a derivation of the pattern gives them
  pub found : AreSpansOf f (chars pattern) l
  -- no derivation gives others
  pub only : (k : List Span) → AreSpansOf f (chars pattern) k → k ≡ l
  -- there is one for each node
  pub each : length l ≡ length (preorder t)
  -- those of children lie in that of their parent, one after another, and all of them lie in the pattern
  pub nested : Nests 0 (length pattern) t l
  -- each begins and ends at character boundaries
  pub cut : AllByRecursion (IsCutOut pattern) l

-- what no node has, in the order of the pattern
pub record AreParsedTrivia (f : Flags) (pattern : List ℕ) (l : List Trivium) : Type 0 where
  -- it is what the tree of the pattern does not hold
  pub found : IsTriviaOf f (chars pattern) l
  -- the pattern has no other such list
  pub only : (k : List Trivium) → IsTriviaOf f (chars pattern) k → k ≡ l
  -- each is a part of the pattern, spelled as its kind says
  pub parts : AllByRecursion (IsPartOf (chars pattern)) l
  -- they follow one another in the pattern
  pub in_order : AreInOrder 0 (length pattern) l
  -- each begins and ends at character boundaries
  pub cut : AllByRecursion (λ x. IsCutOut pattern x.span) l
  -- each byte that is in none of them is in a leaf, in own text of a node, or is whitespace that is ignored
  pub every_byte : HasEveryByte (chars pattern) l

-- the error that a parse returns
pub record IsParseError (f : Flags) (pattern : List ℕ) (e : Error) : Type 0 where
  -- memory ran out, or the pattern has this error, no other and no tree
  pub error : IsOnlyError e f (chars pattern)
  -- memory ran out, or the position is one past the end or a character boundary
  pub position : IsPositionedIn e pattern
