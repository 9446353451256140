-- A tree and its group information in the buffers.
use Rattle.std.proofs.Common.{◌≡◌, ◌<◌, ◌⊎◌, inl, inr, ℕ, zero, suc, ◌+◌, ◌≤◌, List, [], ◌∷◌, ◌++◌, length, drop, map, ap, ◌∙◌}
use Rattle.std.proofs.Common.{subst, length-append, zero-add, arith}
use Rattle.std.specs.List.{AllByRecursion}
use Rattle.fancy_lex.specs.declared.flags.Flags.{Flags}
use Rattle.fancy_grammar.specs.GroupInfo.{GroupInfo}
use Rattle.fancy_c.specs.CallResult.{IsTreeOfBytes}
use Rattle.fancy_grammar.specs.Label as label
use Rattle.fancy_grammar.specs.Promises.{AreParsedSpans}
use Rattle.fancy_grammar.specs.Tree.{Tree, leaf, over, row, Trees, no_trees, more_trees, nodes, nodes_all}
use Rattle.fancy_c.specs.Buffer.{Fills, put_at}
use Rattle.fancy_grammar.proofs.ParsedSpans.{nests_within}
use Rattle.fancy_syntax.specs.SpanViews.{span_of}
use Rattle.fancy_syntax.specs.declared.span.Span.{Span}
use Rattle.fancy_c.specs.InfoRows.{summary, name_texts, AreEnough, IsSummaryOf, AreSpansOfBytes}
use Rattle.fancy_c.specs.Node.{listed, listed_all, span_at, texts}
use Rattle.fancy_c.specs.declared.info_rows.TreeInfo.{TreeInfo}
use Rattle.fancy_c.proofs.BoundLemmas.{few_backrefs}
use Rattle.fancy_c.proofs.ParsedCosts.{parsed_cost}
use Rattle.fancy_c.proofs.RowLemmas.{put_more}

pub filled : {A : Type 0} (old new items : List A) → length items ≤ length old → new ≡ put_at old 0 items →
    Fills old new items
filled old new items fits put =
    record { fits = fits; is = put ∙ ap (λ k. items ++ drop k old) (zero-add (length items)) }

pub texts_put : (d d' d'' xs ys : List ℕ) (o : ℕ) → o ≡ 0 + length xs → d' ≡ put_at d 0 xs → d'' ≡ put_at d' o ys →
    d'' ≡ put_at d 0 (xs ++ ys)
texts_put d d' d'' xs ys o at put puts = puts ∙ ap (λ e. put_at e o ys) put ∙ put_more d 0 o xs ys at (omega arith)

-- no more nodes are listed than the tree has
mutual
  pub listed_nodes : (t : Tree) → length (listed t) ≤ nodes t
  listed_nodes (leaf l) = omega arith
  listed_nodes (over (label.ast_group name position) t) = omega arith
  listed_nodes (over w t) = omega (arith, listed_nodes t)
  listed_nodes (row r ts) = omega (arith, listed_nodes_all ts)

  listed_nodes_all : (ts : Trees) → length (listed_all ts) ≤ nodes_all ts
  listed_nodes_all no_trees = omega arith
  listed_nodes_all (more_trees t ts) =
      omega (arith, listed_nodes t, listed_nodes_all ts, length-append (listed t) (listed_all ts))

pub is_summary_of : (f : Flags) (bytes : List ℕ) (t : Tree) (m : GroupInfo) (info : TreeInfo) → IsTreeOfBytes f bytes t m →
    info ≡ summary t m → IsSummaryOf info f bytes t m
is_summary_of f bytes t m info tree is = record {
  tree = tree;
  is = is;
  few = omega (arith, tree.parsed.bounds.0, listed_nodes t, ap (λ k. k.node_count) is);
  few_backrefs = omega (arith, few_backrefs f bytes t m tree, ap (λ k. k.backref_count) is);
  short_texts =
      omega (
        arith,
        parsed_cost f bytes t m tree.utf8 tree.parsed.found,
        length-append (texts (listed t)) (name_texts m.named_groups),
        ap (λ k. k.texts_size) is,
      );
  few_names = omega (arith, parsed_cost f bytes t m tree.utf8 tree.parsed.found, ap (λ k. k.name_count) is);
}

-- no buffer with such a capacity is too short
pub suffices : {info : TreeInfo} {f : Flags} {bytes : List ℕ} {t : Tree} {m : GroupInfo} {nodes texts names backrefs : ℕ} →
    IsSummaryOf info f bytes t m → AreEnough (length bytes) nodes texts names backrefs →
    (nodes < info.node_count) ⊎ ((texts < info.texts_size) ⊎ ((names < info.name_count) ⊎ (backrefs < info.backref_count))) →
    ⊥
suffices s e (inl h) = omega (arith, s.few, e.for_nodes, h)
suffices s e (inr (inl h)) = omega (arith, s.short_texts, e.for_texts, h)
suffices s e (inr (inr (inl h))) = omega (arith, s.few_names, e.for_names, h)
suffices s e (inr (inr (inr h))) = omega (arith, s.few_backrefs, e.for_backrefs, h)

-- the same, if a buffer for trivia may be too short
pub suffices_but_trivia : {info : TreeInfo} {f : Flags} {bytes : List ℕ} {t : Tree} {m : GroupInfo}
    {nodes texts names backrefs trivia count : ℕ} →
    IsSummaryOf info f bytes t m → AreEnough (length bytes) nodes texts names backrefs →
    (nodes < info.node_count) ⊎ ((texts < info.texts_size) ⊎ ((names < info.name_count) ⊎ ((backrefs < info.backref_count)
    ⊎ (trivia < count)))) → trivia < count
suffices_but_trivia s e (inl h) = omega (arith, s.few, e.for_nodes, h)
suffices_but_trivia s e (inr (inl h)) = omega (arith, s.short_texts, e.for_texts, h)
suffices_but_trivia s e (inr (inr (inl h))) = omega (arith, s.few_names, e.for_names, h)
suffices_but_trivia s e (inr (inr (inr (inl h)))) = omega (arith, s.few_backrefs, e.for_backrefs, h)
suffices_but_trivia s e (inr (inr (inr (inr h)))) = h

-- a span of the list is within the bytes
span_within : (n : ℕ) (l : List Span) → AllByRecursion (λ p. (0 ≤ p.start) × (p.start ≤ p.end) × (p.end ≤ n))
    (map span_of l) → (i : ℕ) → ((span_at l i).start ≤ (span_at l i).end) × ((span_at l i).end ≤ n)
span_within n [] e i = (omega arith, omega arith)
span_within n (p ∷ l) e zero = (e.0.1, e.0.2)
span_within n (p ∷ l) e (suc i) = span_within n l e.1 i

pub spans_of_bytes : {f : Flags} {text bytes : List ℕ} {t : Tree} {l : List Span} → text ≡ bytes →
    AreParsedSpans f text t (map span_of l) → AreSpansOfBytes f bytes t l
spans_of_bytes {f} {text} {bytes} {t} {l} is spans = subst (λ b. AreSpansOfBytes f b t l) is (record {
  parsed = spans;
  within = span_within (length text) l (nests_within spans.nested).1;
})
