use Rattle.std.proofs.Common.{◌≡◌, ◌+◌, length, ap, sym, ◌∙◌, arith, get_or}
use Rattle.std.specs.Prelude.{insert}
use Rattle.fancy_syntax.specs.Log.{wrapped, put_at}
use Rattle.fancy_syntax.specs.LogViews.{log_of}
use Rattle.fancy_syntax.specs.declared.grammar.recorded.Recorded.TheVariants.{Node}
use Rattle.fancy_syntax.proofs.ShownLemmas.{inserted_before_last}
use Rattle.fancy_syntax.proofs.grammar.spans.SpansSpanning.wrap.Goals as goal

pub returns : goal.returns
returns c l h =
    let self = c.args.self.now in
    let xs = c.reserve.new.self.items in
    let height = self.last.height in
    let node = Node self.last.start c.args.end in
    let leaf = c.index-leaf.result.now in
    let same : xs ≡ self.recorded.items = c.in_ok-reserve.ensures.items in
    let one : length xs ≡ height + 1 =
    omega (
      arith,
      ap length same,
      c.saturating_add.ensures,
      c.len.ensures,
      c.if-len-saturating_add.false,
      self.recorded.ok,
      self.recorded.small,
    ) in
    let last : leaf ≡ get_or xs height leaf = c.index-leaf.ensures in
    let items : c.push_reserved.new.self.items ≡ put_at height node self.recorded.items =
    c.push_reserved.ensures.items ∙ inserted_before_last xs height node leaf one last
    ∙ ap (λ n. insert xs n node) (omega (arith, one)) ∙ ap (put_at height node) same in
    ap (λ ys. record (log_of self) { recorded = ys }) items
    ∙ ap (λ a. wrapped c.args.end a (log_of self)) (sym c.if-atomic.false) ∙ ap (wrapped c.args.end c.args.atomic) h
