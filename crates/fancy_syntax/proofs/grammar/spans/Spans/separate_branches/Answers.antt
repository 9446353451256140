use Rattle.std.proofs.Common.{◌≡◌, OnOk, length, arith, sym, ap, ◌∙◌, subst}
use Rattle.fancy_grammar.specs.Tree.{trees_of, list_of}
use Rattle.fancy_grammar.proofs.TreeLaws.{list_back}
use Rattle.fancy_syntax.specs.Log.{body_split}
use Rattle.fancy_syntax.specs.LogViews.{log_of}
use Rattle.fancy_syntax.specs.Recording.{body_separated}
use Rattle.fancy_syntax.specs.View.{view, views}
use Rattle.fancy_syntax.proofs.TreeLemmas.{view_Alt}
use Rattle.fancy_syntax.proofs.TreesLemmas.{views_length}
use Rattle.fancy_syntax.proofs.grammar.spans.Spans.separate_branches.Goals as goal

pub returns-in-Alt : goal.returns-in-Alt
returns-in-Alt c =
    let l = log_of c.args.self.now in
    let es = c.in-Alt.branches.items in
    let k : c.len.result ≡ length (list_of (trees_of (views es))) =
    omega (arith, c.len.ensures, c.in-Alt.branches.ok.0, ap length (list_back (views es)), views_length es) in
    subst (λ m. OnOk c.split.result (log_of c.split.new.self ≡ m))
    (ap (λ n. body_split n l) k ∙ sym (ap (λ t. body_separated t c.args.end l) (ap view c.in-Alt.is ∙ view_Alt c.in-Alt.branches)))
    c.split.ensures
