-- The set of a node that matches one character.
use Rattle.std.proofs.Common.{◌≡◌, Option, Some, None, subst}
use Rattle.std.specs.Prelude.{MatchOption, IsSomeAnd}
use Rattle.regex_syntax.specs.declared.Config.{Config}
use Rattle.regex_syntax.specs.Reading.{Text}
use Rattle.class_meaning.specs.ClassMeaning.{MatchesOneOf, IsMeaningOf}
use Rattle.class_meaning.specs.declared.character_set.CharacterSet.{CharacterSet}
use Rattle.class_meaning.specs.declared.class_text.ClassMeaning.{ClassMeaning}
use Rattle.class_meaning.specs.declared.class_text.ClassMeaning.TheVariants.{Characters, NotOneCharacter}

reads_set : (o : Option (Config × Text)) (set : CharacterSet) →
    MatchOption o (Characters set ≡ NotOneCharacter) (λ (config, text). IsMeaningOf config text (Characters set)) →
    IsSomeAnd o (λ (config, text). MatchesOneOf config text set.class.ranges.items)
reads_set None set h = cc
reads_set (Some p) set h = h

-- a node with a set of characters has a pattern, which the engine reads as the set's ranges
pub reads_ranges : (o : Option (Config × Text)) (m : ClassMeaning) (set : CharacterSet) → m ≡ Characters set →
    MatchOption o (m ≡ NotOneCharacter) (λ (config, text). IsMeaningOf config text m) →
    IsSomeAnd o (λ (config, text). MatchesOneOf config text set.class.ranges.items)
reads_ranges o m set is h = reads_set o set
    (subst (λ n. MatchOption o (n ≡ NotOneCharacter) (λ (config, text). IsMeaningOf config text n)) is h)
