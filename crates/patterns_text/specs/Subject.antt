-- Patterns that are reported on.
use Rattle.std.specs.Global.{Vec}
use Rattle.std.specs.Prelude.{chars}
use Rattle.fancy_lex.specs.Flags.{flags_of}
use Rattle.fancy_syntax.specs.InfoViews.{IsTreeOf, HasTree, HasError, info_of}
use Rattle.fancy_syntax.specs.Trivia.{IsTriviaOf}
use Rattle.fancy_syntax.specs.TriviaViews.{trivia_of}
use Rattle.fancy_syntax.specs.View.{view}
use Rattle.fancy_syntax.specs.declared.tree.ExprTree.{ExprTree}
use Rattle.fancy_syntax.specs.declared.trivium.Trivium.{Trivium}
use Rattle.patterns_text.specs.declared.subject.Subject.{Subject}

-- the pattern has a tree under its flags
abbrev pub IsAccepted : Subject → Type 0
IsAccepted s = HasTree (flags_of s.flags) (chars s.pattern.now)

-- the pattern has an error under its flags
abbrev pub IsRefused : Subject → Type 0
IsRefused s = HasError (flags_of s.flags) (chars s.pattern.now)

-- the tree and its group information are those of the pattern under its flags
abbrev pub IsParsedAs : Subject → ExprTree → Type 0
IsParsedAs s t = IsTreeOf (flags_of s.flags) (chars s.pattern.now) (view t.expr) (info_of t)

-- they are what no node of the tree of the pattern has
abbrev pub HasTrivia : Subject → Vec Trivium → Type 0
HasTrivia s l = IsTriviaOf (flags_of s.flags) (chars s.pattern.now) (trivia_of l)
