-- What the engine makes of bytes and of nodes.
use Rattle.std.proofs.Common.{◌≡◌, ℕ, List, chars, sym, subst, Option, Some, None}
use Rattle.std.specs.Prelude.{MatchOption, IsSomeAnd, IfSome, IsCharBoundary}
use Rattle.fancy_lex.specs.declared.flags.Flags.{Flags}
use Rattle.fancy_grammar.specs.Tree.{Tree}
use Rattle.regex_syntax.specs.declared.Config.{Config}
use Rattle.regex_syntax.specs.declared.error.Error.{Error}
use Rattle.regex_syntax.specs.Reading.{Text}
use Rattle.class_meaning.specs.ClassMeaning.{IsMeaningOf, HasSpanIn}
use Rattle.class_meaning.specs.EnginePattern.{engine_pattern}
use Rattle.class_meaning.specs.declared.character_set.CharacterSet.{CharacterSet}
use Rattle.class_meaning.specs.declared.class_text.ClassMeaning.{ClassMeaning}
use Rattle.class_meaning.specs.declared.class_text.ClassMeaning.TheVariants.{Characters, Refused, NotOneCharacter}
use Rattle.fancy_c.specs.ClassRanges.{config_of, AreRangesOf, IsRefused, IsPattern, IsGiven, IsRead}
use Rattle.fancy_c.specs.RowTree.{IsRowOf}
use Rattle.fancy_c.specs.declared.node.Node.{Node}

-- a set of characters has ranges
ranges_of : (config : Config) (text : Text) (set : CharacterSet) → IsMeaningOf config text (Characters set) →
    AreRangesOf config text set.class.ranges.items
ranges_of config text set h = record { matches = h; canonical = set.class.canonical; characters = set.characters }

-- ---- what the engine makes of bytes, under flags that are the same

meant : (f g : Flags) (bytes text : List ℕ) (m n : ClassMeaning) → g ≡ f → text ≡ bytes → m ≡ n →
    IsMeaningOf (config_of g) (chars text) m → IsMeaningOf (config_of f) (chars bytes) n
meant f g bytes text m n flags is means h =
    subst (λ b. IsMeaningOf (config_of f) (chars b) n) is
    (subst (λ e. IsMeaningOf (config_of e) (chars text) n) flags
    (subst (λ o. IsMeaningOf (config_of g) (chars text) o) means h))

pub ranges_of_bytes : (f g : Flags) (bytes text : List ℕ) (m : ClassMeaning) (set : CharacterSet) → g ≡ f → text ≡ bytes →
    m ≡ Characters set → IsMeaningOf (config_of g) (chars text) m →
    AreRangesOf (config_of f) (chars bytes) set.class.ranges.items
ranges_of_bytes f g bytes text m set flags is means h =
    ranges_of (config_of f) (chars bytes) set (meant f g bytes text m (Characters set) flags is means h)

pub refused_bytes : (f g : Flags) (bytes text : List ℕ) (m : ClassMeaning) (e : Error) → g ≡ f → text ≡ bytes →
    m ≡ Refused e → IsMeaningOf (config_of g) (chars text) m → IsRefused (config_of f) (chars bytes)
refused_bytes f g bytes text m e flags is means h = (e.kind, (meant f g bytes text m (Refused e) flags is means h).1)

pub refused_at : (bytes text : List ℕ) (m : ClassMeaning) (e : Error) (p : ℕ) → text ≡ bytes → m ≡ Refused e →
    p ≡ e.span.start → HasSpanIn text m → IsCharBoundary bytes p
refused_at bytes text m e p is means position span =
    subst (λ q. IsCharBoundary bytes q) (sym position)
    (subst (λ b. HasSpanIn b (Refused e)) is (subst (λ o. HasSpanIn text o) means span)).1

pub pattern_bytes : (f g : Flags) (bytes text : List ℕ) (m : ClassMeaning) → g ≡ f → text ≡ bytes → m ≡ NotOneCharacter →
    IsMeaningOf (config_of g) (chars text) m → IsPattern (config_of f) (chars bytes)
pattern_bytes f g bytes text m flags is means h = meant f g bytes text m NotOneCharacter flags is means h

-- ---- what it makes of a node

-- the engine makes this of the pattern that it is given, if it is given one
abbrev Makes : Option (Config × Text) → ClassMeaning → Type 0
Makes o m = MatchOption o (m ≡ NotOneCharacter) (λ (config, text). IsMeaningOf config text m)

made : (f g : Flags) (t : Tree) (m n : ClassMeaning) → g ≡ f → m ≡ n → Makes (engine_pattern g.unicode t) m →
    Makes (engine_pattern f.unicode t) n
made f g t m n flags means h =
    subst (λ e. Makes (engine_pattern e.unicode t) n) flags (subst (λ o. Makes (engine_pattern g.unicode t) o) means h)

given_ranges : (o : Option (Config × Text)) (set : CharacterSet) → Makes o (Characters set) →
    IsSomeAnd o (λ (config, text). AreRangesOf config text set.class.ranges.items)
given_ranges None set h = cc
given_ranges (Some p) set h = ranges_of p.0 p.1 set h

given_refused : (o : Option (Config × Text)) (e : Error) → Makes o (Refused e) →
    IsSomeAnd o (λ (config, text). IsRefused config text)
given_refused None e h = cc
given_refused (Some p) e h = (e.kind, h.1)

given_read : (o : Option (Config × Text)) → Makes o NotOneCharacter → IfSome o (λ (config, text). IsPattern config text)
given_read None h = tt
given_read (Some p) h = h

pub ranges_of_row : (f g : Flags) (texts : List ℕ) (r : Node) (t : Tree) (m : ClassMeaning) (set : CharacterSet) → g ≡ f →
    IsRowOf texts r t → m ≡ Characters set → Makes (engine_pattern g.unicode t) m →
    IsGiven f texts r (λ config text. AreRangesOf config text set.class.ranges.items)
ranges_of_row f g texts r t m set flags is means h =
    (t, is, given_ranges (engine_pattern f.unicode t) set (made f g t m (Characters set) flags means h))

pub refused_row : (f g : Flags) (texts : List ℕ) (r : Node) (t : Tree) (m : ClassMeaning) (e : Error) → g ≡ f →
    IsRowOf texts r t → m ≡ Refused e → Makes (engine_pattern g.unicode t) m → IsGiven f texts r IsRefused
refused_row f g texts r t m e flags is means h =
    (t, is, given_refused (engine_pattern f.unicode t) e (made f g t m (Refused e) flags means h))

pub read_row : (f g : Flags) (texts : List ℕ) (r : Node) (t : Tree) (m : ClassMeaning) → g ≡ f → IsRowOf texts r t →
    m ≡ NotOneCharacter → Makes (engine_pattern g.unicode t) m → IsRead f texts r
read_row f g texts r t m flags is means h =
    (t, is, given_read (engine_pattern f.unicode t) (made f g t m NotOneCharacter flags means h))
