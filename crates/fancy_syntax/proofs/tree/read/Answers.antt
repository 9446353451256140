use Rattle.std.proofs.Common.{◌≡◌, refl, None, Result, Ok, Err, IfOk, chars, map, ap, ◌∙◌}
use Rattle.std.proofs.lemmas.Result.{err_from_is_err_and, IfErr-weaker}
use Rattle.fancy_lex.specs.Text.{Text, bytes}
use Rattle.fancy_lex.specs.declared.error.ReadError.{ReadError}
use Rattle.fancy_lex.specs.declared.flags.Flags.{Flags}
use Rattle.fancy_grammar.specs.ParseResult.{IsTreeOf}
use Rattle.fancy_grammar.specs.Grammar.{DerivesTree}
use Rattle.fancy_grammar.specs.Ranks.{only_named}
use Rattle.fancy_grammar.specs.Items.{openings}
use Rattle.fancy_grammar.specs.GroupInfo.{GroupInfo, group_info}
use Rattle.fancy_grammar.specs.Spans.{AreSpansOf, positioned}
use Rattle.fancy_grammar.specs.Resolved.{resolved, error_of}
use Rattle.fancy_grammar.specs.Tree.{Tree}
use Rattle.fancy_grammar.specs.Trivia.{IsTriviaOf, located, kept}
use Rattle.fancy_syntax.specs.InfoViews.{info_of}
use Rattle.fancy_syntax.specs.Log.{Log, shown}
use Rattle.fancy_syntax.specs.LogViews.{returned_spans, returned_trivia}
use Rattle.fancy_syntax.specs.RecordedWhole.{IsRecordedWhole}
use Rattle.fancy_syntax.specs.View.{view}
use Rattle.fancy_syntax.specs.declared.tree.ExprTree.{ExprTree}
use Rattle.fancy_grammar.proofs.Verdict.{only_reading, only_resolving, reading_positioned, resolving_positioned}
use Rattle.fancy_syntax.proofs.tree.read.Goals as goal

pub returns-in_err-raw-clause-error : goal.returns-in_err-raw-clause-error
returns-in_err-raw-clause-error g c =
    let e = err_from_is_err_and c.from_residual.result c.from_residual.ensures.1 in
    rw (e.1, e.2) (record {
      error = only_reading c.in_err-raw.field-0.0 c.args.flags (chars c.args.re.now) (c.in_err-raw.ensures _ refl);
      position = reading_positioned c.in_err-raw.field-0.0 _ _ c.utf8.re (c.in_err-raw.ensures _ refl);
    })

pub resolve-requires : goal.resolve-requires
resolve-requires g c =
    let (r, reads, is_raw, recorded) = c.in_ok-raw.ensures _ refl in (c.args.flags, r, reads, is_raw)

-- the tree of the text, if its raw tree is this one
tree_of : {f : Flags} {text : Text} {r : Tree} (o : Result ExprTree ReadError) → DerivesTree f text r →
    IfOk o (λ t. view t.expr ≡ resolved f (bytes text) r) → IfOk o (λ t. info_of t ≡ group_info f text r) →
    IfOk o (λ _. error_of f r ≡ None) → IfOk o (λ t. IsTreeOf f text (view t.expr) (info_of t))
tree_of {r} (Ok t) reads tree same_info none = (r, reads, none, tree, same_info)
tree_of (Err e) reads tree same_info none = tt

pub returns-clause-found : goal.returns-clause-found
returns-clause-found g c =
    let (r, reads, is_raw, recorded) = c.in_ok-raw.ensures _ refl in
    let ensured = c.resolve.ensures in
    let f = c.args.flags in
    tree_of c.resolve.result reads (ensured.tree f r reads is_raw) (ensured.group_info f r reads is_raw)
    (ensured.no_error f r reads is_raw)

pub returns-clause-error : goal.returns-clause-error
returns-clause-error g c =
    let (r, reads, is_raw, recorded) = c.in_ok-raw.ensures _ refl in
    IfErr-weaker c.resolve.result _ _
    (λ e first. record {
      error = only_resolving e _ (chars c.args.re.now) r reads first;
      position = resolving_positioned e c.args.flags c.args.re.now r c.utf8.re reads first;
    })
    (c.resolve.ensures.error c.args.flags r reads is_raw)

-- the spans of the text, if they are those of the nodes of this raw tree
spans_of_tree : {f : Flags} {text : Text} {r : Tree} {N : Log → Type 0} (o : Result ExprTree ReadError) →
    (m : Log) × N m × IsRecordedWhole f text r m → IfOk o (λ t. info_of t ≡ group_info f text r) → IfOk o (λ t.
    (m : Log) × N m × AreSpansOf f text (returned_spans text (info_of t).numbered_groups_ignored m)
    × IsTriviaOf f text (returned_trivia text (info_of t).numbered_groups_ignored m))
spans_of_tree {f} {text} {r} (Ok t) (m, n, (v, (a, shows, passed))) same_info = (
  m,
  n,
  (
    r,
    v,
    a,
    ap (map (positioned (bytes text)))
        (ap (λ (k : GroupInfo). shown k.numbered_groups_ignored m.recorded) same_info ∙ shows (only_named f (openings r))),
  ),
  (
    r,
    v,
    a,
    ap (map (located (bytes text)))
        (ap (λ (k : GroupInfo). kept k.numbered_groups_ignored m.passed) same_info
        ∙ ap (kept (only_named f (openings r))) passed),
  ),
)
spans_of_tree (Err e) m same_info = tt

pub returns-clause-spans : goal.returns-clause-spans
returns-clause-spans g c l is n =
    let (r, reads, is_raw, recorded) = c.in_ok-raw.ensures l is in
    spans_of_tree c.resolve.result (recorded n) (c.resolve.ensures.group_info c.args.flags r reads is_raw)
