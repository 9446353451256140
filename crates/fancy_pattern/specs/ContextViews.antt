-- How the context of a writer of texts, and what it knows besides the tree, correspond to the definition.
use Rattle.std.specs.Prelude.{◌≡◌, ℕ, ◌-◌, ◌==◌, List, [], ◌∷◌, chars, find, Option, Some, None, ⊤}
use Rattle.std.specs.BTreeMap.{BTreeMap, get}
use Rattle.std.specs.List.{list_any}
use Rattle.std.specs.Ordering.{nat_cmp}
use Rattle.fancy_lex.specs.Text.{Text}
use Rattle.fancy_lex.specs.declared.flags.Flags.{Flags}
use Rattle.fancy_grammar.specs.Depth.{max_depth}
use Rattle.fancy_grammar.specs.GroupInfo.{GroupInfo}
use Rattle.fancy_grammar.specs.Pattern.{Context, leaf_text}
use Rattle.fancy_grammar.specs.PatternNeeds.{with_needs, agreed}
use Rattle.fancy_grammar.specs.PatternReference.{Named, is_plain_name, is_last, is_only}
use Rattle.fancy_grammar.specs.PatternWalk.{needs_listed}
use Rattle.fancy_grammar.specs.Tree.{Tree, leaf}
use Rattle.fancy_grammar.specs.declared.needs.Needs.{Needs}
use Rattle.fancy_pattern.specs.declared.context.Context as code
use Rattle.fancy_pattern.specs.declared.names.GroupNames as group_names
use Rattle.fancy_pattern.specs.declared.names.GroupName as name

-- ---- the context of a text

-- the flags are as each node needs them
abbrev pub AreMet : Flags → List Needs → Type 0
AreMet f [] = ⊤
AreMet f (n ∷ l) = (with_needs f n ≡ f) × AreMet f l

-- what is known of the nodes to come: what each needs is listed, or nothing is, since these flags are as each needs them
-- and never change
pub data Known : Type 0 where
  listed : Known
  met : Flags → Known

-- the list is for nodes with the needs l, where the flags f hold
abbrev pub IsListFor : Known → Flags → List Needs → List Needs → Type 0
IsListFor listed f list l = list ≡ l
IsListFor (met e) f list l = (list ≡ []) × ((f ≡ e) × AreMet e l)

-- the flags may be set to f
abbrev pub Allows : Known → Flags → Type 0
Allows listed f = ⊤
Allows (met e) f = f ≡ e

-- the same context, before nodes with these needs
pub record IsContext (k : Known) (i : code.Context) (h : Context) (l : List Needs) : Type 0 where
  pub flags : i.flags ≡ h.flags
  pub opened : i.opened ≡ h.opened
  pub left : i.left ≡ max_depth - h.depth
  pub needs : IsListFor k h.flags i.needs.now l

-- what is known of a whole tree before it is written: the list for its nodes, and what all its leaves need together
pub record KnowsNeeds (f : Flags) (t : Tree) (list : List Needs) (common : Needs) : Type 0 where
  pub known : Known
  pub nodes : IsListFor known f list (needs_listed f.oniguruma_mode t)
  pub leaves : with_needs f common ≡ agreed f t

-- ---- names

-- the name is the name in the entry, and says the same as the entry about the group n
pub record MatchesEntry (n : ℕ) (a : name.GroupName) (e : Named) : Type 0 where
  pub text : chars a.text.now ≡ e.0
  pub plain : a.is_plain ≡ is_plain_name e.0
  pub last : a.is_last ≡ is_last n e.1
  pub only : a.is_only ≡ is_only n e.1

-- the group n has the name of the entry, or neither exists
abbrev pub IsNameOf : ℕ → Option name.GroupName → Option Named → Type 0
IsNameOf n None None = ⊤
IsNameOf n (Some a) (Some e) = MatchesEntry n a e
IsNameOf n _ _ = ⊥

-- each group has the name that the entries give it
pub record AreNames (b : BTreeMap ℕ name.GroupName) (es : List Named) : Type 0 where
  pub at : (n : ℕ) → IsNameOf n (get nat_cmp b n) (find (λ e. list_any (λ k. k == n) e.1) es)

-- what is known of the tree agrees with its group information
pub record AreGroupNames (k : group_names.GroupNames) (m : GroupInfo) : Type 0 where
  pub numeric : k.is_numeric ≡ m.numeric_capture_group_references
  pub self_recursive : k.self_recursive ≡ m.self_recursive
  pub names : AreNames k.names m.named_groups

-- ---- leaves

-- the text of a tree that is a leaf; an empty text for any other tree
abbrev pub leaf_text_of : GroupInfo → Tree → Context → Text
leaf_text_of m (leaf l) h = leaf_text m l h
leaf_text_of m t h = []
