use Rattle.std.proofs.Common.{ap, ◌∙◌, subst}
use Rattle.std.proofs.lemmas.Result.{err_from_is_err_and}
use Rattle.std.specs.Str.{chars}
use Rattle.fancy_grammar.specs.Groups.{groups_in}
use Rattle.fancy_grammar.specs.Ranks.{numbered_openings_in}
use Rattle.fancy_grammar.specs.Grammar.{Alternation, Whole, whole, start}
use Rattle.fancy_grammar.specs.Items.{items, openings_in}
use Rattle.fancy_grammar.specs.State.{done}
use Rattle.fancy_syntax.specs.Log.{Log}
use Rattle.fancy_syntax.specs.RecordedWhole.{ShowsWhole}
use Rattle.fancy_syntax.specs.Recording.{AlternationTo}
use Rattle.fancy_syntax.specs.Parsed.{state}
use Rattle.fancy_grammar.proofs.ErrorLemmas.{says_end}
use Rattle.fancy_grammar.proofs.OutcomeLemmas.{IsErrorAmong-map, IsErrorAmong-is}
use Rattle.fancy_syntax.proofs.WholeLaws.{ended_done, ended_left, whole_shown}
use Rattle.fancy_syntax.proofs.grammar.parse.Goals as goal

pub returns-in_err-tree : goal.returns-in_err-tree
returns-in_err-tree g c l is =
    let e = err_from_is_err_and c.from_residual.result c.from_residual.ensures.1 in
    rw (e.1, e.2) (IsErrorAmong-map (Alternation 0 (start c.args.flags (chars c.args.text.now)))
    (Whole c.args.flags (chars c.args.text.now)) c.in_err-tree.field-0.0 (λ f h. whole h)
    (c.in_err-tree.ensures.value l))

pub returns-in-None : goal.returns-in-None
returns-in-None g c l is =
    let flags = c.args.flags in
    let text = chars c.args.text.now in
    let current = state c.in_ok-tree.current in
    let (r, m, a, more, same, found) = c.in_ok-tree.ensures.value l in
    let ended = ended_done r current c.in-None.ensures.value in
    let f = c.with_tree.ensures in
    let named = f.named _ (items r) found in (
      r,
      (current, subst (Whole flags text) ended (whole a.0)),
      record {
        same = rw f.expr same;
        named = named;
        groups = f.groups _ (items r) found ∙ ap (λ b. groups_in (numbered_openings_in b (openings_in (items r)))) named;
        unresolved = f.unresolved _ (items r) found;
      },
      λ n. (
        m,
        more n,
        (
          current,
          subst (λ o. ShowsWhole flags text o m) ended (whole_shown
              (subst (λ (l : Log). AlternationTo 0 (start flags text) (done r current) l m) is a)),
        ),
      ),
    )

pub returns-in-Some : goal.returns-in-Some
returns-in-Some g c l is =
    let f = says_end c.general.result c.reach.result c.general.ensures in
    let current = state c.in_ok-tree.current in
    let (r, m, a, more, same, found) = c.in_ok-tree.ensures.value l in
    IsErrorAmong-is (Whole c.args.flags (chars c.args.text.now)) c.general.result _
    (rw c.reach.ensures at f)
    (subst (Whole c.args.flags (chars c.args.text.now))
    (ended_left r current _ _ c.in-Some.ensures.value) (whole a.0))
