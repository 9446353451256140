use Rattle.std.proofs.Common.{rules, ◌∙◌, ◌≡◌, ap, sym, subst}
use Rattle.lint_rules.specs.Chosen.{level_of}
use Rattle.patterns_config.specs.Levels.{level_with_all}
use Rattle.patterns_config.proofs.LevelsLemmas.{given_to_one, given_to_all, not_warned}
use Rattle.patterns_config.proofs.choices.RuleLevel.set.Goals as goal

pub returns-in-Some : goal.returns-in-Some
returns-in-Some c rule =
    given_to_one c.in-Some.ensures
    (λ e. subst (λ named. level_of c.set.new.self.levels named ≡ c.args.self.level) (sym e) c.set.ensures.given)
    (c.set.ensures.others rule)

pub returns-in-Warn : goal.returns-in-Warn
returns-in-Warn c rule =
    given_to_all c.in_default.ensures
    (c.warn_all.ensures rule ∙ sym (ap (λ level. level_with_all level rule (level_of c.args.chosen.now.levels rule)) c.in-Warn.is))

pub returns-in-Allow : goal.returns-in-Allow
returns-in-Allow c rule =
    given_to_all c.in_default.ensures
    (c.set_all.ensures.all rule ∙ not_warned rule (level_of c.args.chosen.now.levels rule) c.in-Allow.is)
