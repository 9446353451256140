-- The keys of a grammar under which an object has what is captured.
use Rattle.std.specs.Prelude.{ℕ, List, codes}
use Rattle.patterns_text.specs.declared.grammar_rule.CaptureKey.{CaptureKey}
use Rattle.patterns_text.specs.declared.grammar_rule.CaptureKey.TheVariants as key

abbrev pub capture_key : CaptureKey → List ℕ
capture_key key.Captures = codes "captures"
capture_key key.BeginCaptures = codes "beginCaptures"
capture_key key.EndCaptures = codes "endCaptures"
capture_key key.WhileCaptures = codes "whileCaptures"
