-- What is known of the matches of a tree's nodes, in the order of its rows, and of a pattern.
use Rattle.std.proofs.Common.{◌≡◌, ◌⊎◌, inl, inr, ℕ, ◌+◌, ◌*◌, ◌<◌, ◌≤◌, Bool, List, [], ◌∷◌, ◌++◌, length, take, get_or, encode_utf8, encode_utf8_all, Option, refl, ap, sym, subst, ◌∙◌, append-nil, arith}
use Rattle.std.proofs.lemmas.List.{take_more}
use Rattle.std.proofs.lemmas.Slice.Zip.{AllZip-long}
use Rattle.std.proofs.lemmas.Str.{encodes-append}
use Rattle.std.specs.List.{AllZip}
use Rattle.std.specs.Option.{is_some}
use Rattle.fancy_lex.specs.declared.flags.Flags.{Flags}
use Rattle.fancy_grammar.specs.GroupInfo.{GroupInfo}
use Rattle.fancy_grammar.specs.Label as label
use Rattle.fancy_grammar.specs.Tree.{Tree, leaf, over, row, Trees, no_trees, more_trees}
use Rattle.pattern_facts.specs.Easy.{is_easy}
use Rattle.pattern_facts.specs.Known.{IsRowOf}
use Rattle.pattern_facts.specs.Nodes.{nodes_of, nodes_of_all}
use Rattle.pattern_facts.specs.Prefix.{IsPrefix}
use Rattle.pattern_facts.specs.declared.node_facts.Facts.{Facts}
use Rattle.pattern_facts.specs.declared.prefix.Prefix.{Prefix}
use Rattle.fancy_c.specs.CallResult.{IsTreeOfBytes}
use Rattle.fancy_c.specs.FactRows.{prefix_text, is_whole, AreFactsOf, AreFactsOfBytes}
use Rattle.fancy_c.specs.Node.{listed, listed_all}
use Rattle.fancy_c.specs.declared.facts.PatternFacts.{PatternFacts}
use Rattle.fancy_c.proofs.NodesLemmas.{listed_nodes}

-- the rows of a tree are its nodes in preorder
mutual
  preorder : (t : Tree) → listed t ≡ nodes_of t
  preorder (leaf l) = refl
  preorder (over (label.ast_group name position) t) = refl
  preorder (over w t) = ap (λ l. over w t ∷ l) (preorder t)
  preorder (row r ts) = ap (λ l. row r ts ∷ l) (preorder_all ts)

  preorder_all : (ts : Trees) → listed_all ts ≡ nodes_of_all ts
  preorder_all no_trees = refl
  preorder_all (more_trees t ts) =
      ap (λ l. l ++ listed_all ts) (preorder t) ∙ ap (λ l. nodes_of t ++ l) (preorder_all ts)

abbrev made : ℕ → ℕ → Bool → Bool → Bool → PatternFacts
made n size has whole easy = record {
  node_count = n;
  prefix_size = size;
  has_prefix = has;
  is_prefix_whole = whole;
  is_easy = easy;
}

pub facts_of_tree : (u : Bool) (t : Tree) (rows : List (Option Facts)) (x : Option Prefix) (w : List ℕ) (n size : ℕ)
    (has whole easy : Bool) → AllZip (IsRowOf u) (nodes_of t) rows → IsPrefix u t x → w ≡ prefix_text x →
    n ≡ length rows → size ≡ length w → has ≡ is_some x → whole ≡ is_whole x → easy ≡ is_easy t →
    AreFactsOf u t rows w (made n size has whole easy)
facts_of_tree u t rows x w n size has whole easy known begins text count long some all plain = record {
  nodes = subst (λ l. AllZip (IsRowOf u) l rows) (sym (preorder t)) known;
  prefix = x;
  begins = begins;
  text = text;
  is = ap (λ k. made k size has whole easy) count ∙ ap (λ k. made (length rows) k has whole easy) (long ∙ ap length text)
      ∙ ap (λ b. made (length rows) (length (prefix_text x)) b whole easy) some
      ∙ ap (λ b. made (length rows) (length (prefix_text x)) (is_some x) b easy) all
      ∙ ap (λ b. made (length rows) (length (prefix_text x)) (is_some x) (is_whole x) b) plain;
}

pub facts_of_bytes : {f g : Flags} {bytes w : List ℕ} {t : Tree} {m : GroupInfo} {rows : List (Option Facts)}
    {whole : PatternFacts} → g ≡ f → IsTreeOfBytes f bytes t m → AreFactsOf g.unicode t rows w whole →
    AreFactsOfBytes f bytes t rows w whole
facts_of_bytes {f} {g} {bytes} {w} {t} {m} {rows} {whole} same tree facts =
    record { tree = (m, tree); facts = subst (λ e. AreFactsOf e.unicode t rows w whole) same facts }

-- a buffer for as many nodes as there can be is not too short
pub enough_for_nodes : {f : Flags} {bytes w : List ℕ} {t : Tree} {rows : List (Option Facts)} {whole : PatternFacts}
    {nodes prefix : ℕ} → AreFactsOfBytes f bytes t rows w whole → 2 * length bytes + 1 ≤ nodes →
    (nodes < length rows) ⊎ (prefix < length w) → prefix < whole.prefix_size
enough_for_nodes {f} {bytes} {w} {t} {rows} {whole} h enough (inl short) =
    let (m, tree) = h.tree in
    let count = AllZip-long (IsRowOf f.unicode) (listed t) rows h.facts.nodes in
    omega (arith, tree.parsed.bounds.0, listed_nodes t, count, enough, short)
enough_for_nodes {f} {bytes} {w} {t} {rows} {whole} h enough (inr short) =
    omega (arith, short, ap length h.facts.text, ap (λ s. s.prefix_size) h.facts.is)

-- one more character
pub character_put : (old new : List ℕ) (l : List ℕ) (i c : ℕ) → old ≡ encode_utf8_all (take i l) → i < length l →
    c ≡ get_or l i c → new ≡ old ++ encode_utf8 c → new ≡ encode_utf8_all (take (i + 1) l)
character_put old new l i c before here is put =
    put ∙ ap (λ b. b ++ encode_utf8 c) before
    ∙ ap (λ b. encode_utf8_all (take i l) ++ b) (sym (append-nil (encode_utf8 c)))
    ∙ sym (encodes-append (take i l) (c ∷ []))
    ∙ ap (λ d. encode_utf8_all (take i l ++ d ∷ [])) is
    ∙ ap encode_utf8_all (sym (take_more l i c here))
