-- The trees whose texts are proved to read back.
use Rattle.std.specs.Prelude.{◌≡◌, ℕ, zero, suc, ◌+◌, ◌-◌, ◌^◌, ◌<◌, ◌≤◌, ◌&&◌, Bool, true, false, List, [], ◌∷◌, ◌++◌}
use Rattle.std.specs.Prelude.{length, Option, option_map, nat_le, nat_lt, filter, find, ◌||◌, ℤ, pos, negsuc, ◌==◌}
use Rattle.std.specs.Prelude.{None}
use Rattle.std.specs.List.{AllByRecursion, list_any}
use Rattle.std.specs.Option.{IfSome}
use Prim.Native.Char.{code}
use Rattle.fancy_lex.specs.Characters.{is_among}
use Rattle.fancy_lex.specs.Class.{class}
use Rattle.fancy_lex.specs.Escape.{escape}
use Rattle.fancy_lex.specs.EscapeReference.{is_relative}
use Rattle.fancy_lex.specs.Escaped as escaped
use Rattle.fancy_lex.specs.IdReference.{amount_bound}
use Rattle.fancy_lex.specs.NumberText.{number_text}
use Rattle.fancy_lex.specs.Reading.{gives}
use Rattle.fancy_lex.specs.Target.{Target, by_number, by_name, relative}
use Rattle.fancy_lex.specs.Text.{Text}
use Rattle.fancy_lex.specs.declared.escape.Assertion.TheVariants.{StartLine, StartLineOniguruma}
use Rattle.fancy_lex.specs.declared.flags.Flags.{Flags}
use Rattle.fancy_grammar.specs.Meaning.{call, refers_to, unresolved}
use Rattle.fancy_grammar.specs.Ranks.{Opening, is_counted, only_named, named_groups, numbers}
use Rattle.fancy_grammar.specs.ParsedTree.{groups_referred, has_call}
use Rattle.fancy_grammar.specs.Join.{is_empty}
use Rattle.fancy_grammar.specs.Label.{Leaf, assertion, general_newline, literal, literal_bytes, delegate, group, repeat}
use Rattle.fancy_grammar.specs.Label.{stopper, ast_group, expression, conditional, concat, alt, backref, ast_call}
use Rattle.fancy_grammar.specs.Label.{subroutine_call, backref_at_level, backref_exists, ast_node}
use Rattle.fancy_grammar.specs.GroupInfo.{GroupInfo, ascending}
use Rattle.fancy_grammar.specs.Pattern.{group_count}
use Rattle.fancy_grammar.specs.PatternReference.{name_of}
use Rattle.fancy_grammar.specs.PatternNeeds.{settled, agreed}
use Rattle.fancy_grammar.specs.PatternSource.{delegate_text}
use Rattle.fancy_grammar.specs.Preorder.{preorder}
use Rattle.fancy_grammar.specs.Quantified.{is_repeatable}
use Rattle.fancy_grammar.specs.Tree.{Tree, leaf, over, row, Trees, no_trees, more_trees}
use Rattle.fancy_grammar.specs.declared.precedence.Precedence.TheVariants.{Whole}
use Rattle.fancy_grammar.proofs.PatternDepth.{Fits}

-- the flags, with those that a text can set turned off
abbrev pub unset : Flags → Flags
unset f = record f { casei = false; multi = false; dotnl = false; crlf = false }

-- the flags differ only in those that a text can set
abbrev pub IsLike : Flags → Flags → Type 0
IsLike f g = unset g ≡ unset f

-- the source is read as the Delegate, whatever follows it: as an escape, or as a class
pub data IsSource (f : Flags) (s : Text) (casei : Bool) : Text → Type 0 where
  an_escape : {t : Text} → ((v : Text) → escape f false (t ++ v) ≡ gives (escaped.delegate s casei) v) →
      IsSource f s casei (code "\\" ∷ t)
  a_class : {t : Text} → f.casei ≡ casei → ((v : Text) → class f (t ++ v) ≡ gives s v) →
      IsSource f s casei (code "[" ∷ t)

-- this holds under all flags that the text may set before it
abbrev pub HasSource : Flags → Text → Bool → Type 0
HasSource f s casei =
    (g : Flags) → IsLike f g → settled g (leaf (delegate s casei)) ≡ g → IsSource g s casei (delegate_text g casei s)

-- ---- groups and references, by the group information

-- the name of the group with this number, by the group information
abbrev pub name_at : GroupInfo → ℕ → Option Text
name_at m n = option_map (λ e. e.0) (name_of m n)

-- the openings of the next n groups after c others, with their names by the group information; their reaches are 0
abbrev pub info_openings : GroupInfo → ℕ → ℕ → List Opening
info_openings m c zero = []
info_openings m c (suc n) = record { reach = 0; name = name_at m (c + 1) } ∷ info_openings m (c + 1) n

-- the numbers of a name
abbrev pub info_numbers : GroupInfo → Text → List ℕ
info_numbers m w = numbers w (info_openings m 0 m.total_groups)

-- a level that can be written
abbrev pub IsLevelWritable : ℤ → Type 0
IsLevelWritable (pos n) = n < amount_bound
IsLevelWritable (negsuc n) = n + 1 < amount_bound

-- a call is written with a number if some reference of the pattern was, except a call of group 0 if no call of 0 was
abbrev pub is_called_by_number : GroupInfo → ℕ → Bool
is_called_by_number m n = m.numeric_capture_group_references && (nat_lt 0 n || m.self_recursive)

-- a call of group n can be written: by number, if that fits in a word; by distance, if that is below `amount_bound`
abbrev pub IsCallWritable : Bool → ℕ → ℕ → Type 0
IsCallWritable true c n = n < 2 ^ 64
IsCallWritable false c n = (n - c < amount_bound) × (c + 1 - n < amount_bound)

-- between delimiters no call can be written with this name: it would be read as a distance, or it holds both closing
-- delimiters
abbrev pub is_called_in_parens : Text → Bool
is_called_in_parens w = is_relative w || (is_among (code ">") w && is_among (code "'") w)

-- a name that is no number, and that a call can be written with
abbrev pub IsCalledName : Text → Type 0
IsCalledName [] = ⊥
IsCalledName (c ∷ w) =
    (number_text (c ∷ w) ≡ None) × (is_called_in_parens (c ∷ w) ≡ true → is_among (code ")") (c ∷ w) ≡ false)

-- a target that a call can be written with if it refers to no group
abbrev pub IsCalledTarget : Target → Type 0
IsCalledTarget (by_name w) = IsCalledName w
IsCalledTarget (relative z) = IsLevelWritable z
IsCalledTarget (by_number n) = ⊥

-- a leaf as it is parsed, after the openings of c groups: a character, a byte without UNICODE, a node with an escape, a
-- back reference, a call, which may refer to no group, or a condition on a group without branches
abbrev pub IsWritableLeaf : Flags → GroupInfo → ℕ → Leaf → Type 0
IsWritableLeaf f m c (literal (d ∷ []) casei) = Unit {0}
IsWritableLeaf f m c (literal text casei) = ⊥
IsWritableLeaf f m c (literal_bytes (b ∷ [])) = (f.unicode ≡ false) × (0x80 ≤ b) × (b ≤ 0xFF)
IsWritableLeaf f m c (literal_bytes bytes) = ⊥
IsWritableLeaf f m c (delegate s casei) = HasSource f s casei
IsWritableLeaf f m c (general_newline unicode) = f.unicode ≡ unicode
IsWritableLeaf f m c (assertion (StartLine crlf)) = f.oniguruma_mode ≡ false
IsWritableLeaf f m c (assertion (StartLineOniguruma crlf)) = f.oniguruma_mode ≡ true
IsWritableLeaf f m c (backref n casei) = n < 2 ^ 64
IsWritableLeaf f m c (backref_at_level n level casei) = (n < 2 ^ 64) × IsLevelWritable level
IsWritableLeaf f m c (subroutine_call n) = IsCallWritable (is_called_by_number m n) c n
IsWritableLeaf f m c (backref_exists n level) = (n < 2 ^ 64) × IfSome level IsLevelWritable
IsWritableLeaf f m c (ast_node (ast_call t) position) = IsCalledTarget t ×
    (refers_to (info_numbers m) c call t ≡ unresolved)
IsWritableLeaf f m c (ast_node r position) = ⊥
IsWritableLeaf f m c _ = Unit {0}

abbrev mutual
  -- Each group has a number, a Concat or an Alt has two parts or more, and in Oniguruma mode the counts of a quantifier
  -- are in order.
  -- The rest is required only if groups without a name have a number, since otherwise such groups are replaced by
  -- their contents: the operand of a quantifier is repeatable, no part of a Concat and no contents of a stopper are
  -- Empty, and a conditional has a branch that is not Empty.
  pub AreNodesWritable : Flags → GroupInfo → ℕ → Tree → Type 0
  AreNodesWritable f m c (leaf l) = IsWritableLeaf f m c l
  AreNodesWritable f m c (over (repeat lo hi greedy) t) =
      AreNodesWritable f m c t × (m.numbered_groups_ignored ≡ false → is_repeatable f t ≡ true)
      × (lo < 2 ^ 64) × (hi < 2 ^ 64) × (f.oniguruma_mode ≡ true → lo ≤ hi)
  AreNodesWritable f m c (over group t) =
      (is_counted m.numbered_groups_ignored (name_at m (c + 1)) ≡ true) × AreNodesWritable f m (c + 1) t
  AreNodesWritable f m c (over stopper t) =
      AreNodesWritable f m c t × (m.numbered_groups_ignored ≡ false → is_empty t ≡ false)
  AreNodesWritable f m c (over (ast_group name position) t) = ⊥
  AreNodesWritable f m c (over w t) = AreNodesWritable f m c t
  AreNodesWritable f m c (row expression (more_trees a (more_trees e no_trees))) =
      AreNodesWritable f m c a × AreNodesWritable f m (c + group_count a) e
  AreNodesWritable f m c (row conditional (more_trees k (more_trees t (more_trees e no_trees)))) =
      AreNodesWritable f m c k × AreNodesWritable f m (c + group_count k) t
      × AreNodesWritable f m (c + group_count k + group_count t) e
      × (m.numbered_groups_ignored ≡ false → (is_empty t && is_empty e) ≡ false)
  AreNodesWritable f m c (row concat (more_trees t (more_trees u ts))) =
      ArePieces f m c (more_trees t (more_trees u ts))
  AreNodesWritable f m c (row alt (more_trees t (more_trees u ts))) =
      AreAllWritable f m c (more_trees t (more_trees u ts))
  AreNodesWritable f m c _ = ⊥

  pub AreAllWritable : Flags → GroupInfo → ℕ → Trees → Type 0
  AreAllWritable f m c no_trees = Unit {0}
  AreAllWritable f m c (more_trees t ts) = AreNodesWritable f m c t × AreAllWritable f m (c + group_count t) ts

  pub ArePieces : Flags → GroupInfo → ℕ → Trees → Type 0
  ArePieces f m c no_trees = Unit {0}
  ArePieces f m c (more_trees t ts) =
      AreNodesWritable f m c t × (m.numbered_groups_ignored ≡ false → is_empty t ≡ false)
      × ArePieces f m (c + group_count t) ts

-- ---- the group information of a tree

-- the node is a reference that is written with a number, given this group information
abbrev pub is_numbered : GroupInfo → Tree → Bool
is_numbered m (leaf (backref n casei)) = m.numeric_capture_group_references
is_numbered m (leaf (subroutine_call n)) = is_called_by_number m n
is_numbered m _ = false

-- the node is a call of group 0 that is written with a number
abbrev pub is_numbered_call_of_all : GroupInfo → Tree → Bool
is_numbered_call_of_all m (leaf (subroutine_call n)) = is_called_by_number m n && n == 0
is_numbered_call_of_all m _ = false

-- the group information of a tree that has these groups; m determines how its references are written
abbrev pub info_of : Flags → List Opening → Tree → GroupInfo → GroupInfo
info_of f l t m = record {
  backrefs = ascending (filter (λ n. nat_le n (length l)) (groups_referred t));
  named_groups = named_groups l;
  numeric_capture_group_references = list_any (is_numbered m) (preorder t);
  contains_subroutines = has_call t;
  self_recursive = list_any (is_numbered_call_of_all m) (preorder t);
  total_groups = length l;
  out_of_range_backref = find (λ n. nat_lt (length l) n) (groups_referred t);
  numbered_groups_ignored = only_named f l;
}

-- each group has a number
abbrev pub AreCounted : Bool → List Opening → Type 0
AreCounted named l = AllByRecursion (λ o. is_counted named o.name ≡ true) l

-- a name that can be written between `<` and `>`, or between two `'`
abbrev pub IsNameWritable : Text → Type 0
IsNameWritable [] = ⊥
IsNameWritable (c ∷ w) = (is_among (code ">") (c ∷ w) && is_among (code "'") (c ∷ w)) ≡ false

-- ---- the trees

-- a tree whose text nests fewer than 64 groups, with its group information
pub record IsWritable (f : Flags) (m : GroupInfo) (t : Tree) : Type 0 where
  pub group_info : m ≡ info_of f (info_openings m 0 (group_count t)) t m
  pub names : AllByRecursion (λ e. IsNameWritable e.0) m.named_groups
  pub nodes : AreNodesWritable f m 0 t
  pub fits : Fits t Whole (record { flags = agreed f t; opened = 0; depth = 0 })
