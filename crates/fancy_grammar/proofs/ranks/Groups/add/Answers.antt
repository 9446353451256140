use Rattle.std.proofs.Common.{◌≡◌, ◌+◌, ◌∙◌, option_map, chars, rules}
use Rattle.fancy_grammar.specs.Groups.{groups_of, with_group}
use Rattle.fancy_grammar.proofs.NamedLaws.{groups_in_more}
use Rattle.fancy_grammar.proofs.ranks.Groups.add.Goals as goal

pub returns-clause-numbers : goal.returns-clause-numbers
returns-clause-numbers c before reach is =
    let added : groups_of (record { total = c.args.self.now.total + 1; names = c.match-name.self.names })
    ≡ with_group (groups_of c.args.self.now) (option_map (λ t. chars t.now) c.args.name)
    = search rules in
    added ∙ groups_in_more (groups_of c.args.self.now) before reach (option_map (λ t. chars t.now) c.args.name) is
