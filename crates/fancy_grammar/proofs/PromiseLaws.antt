-- What a parse promises follows from the definitions of a tree, of spans, of trivia and of an error.
use Rattle.std.proofs.Common.{◌≡◌, ℕ, List, chars, subst, sym}
use Rattle.std.specs.Str.{IsUtf8}
use Rattle.fancy_lex.proofs.TextLemmas.{bytes_chars}
use Rattle.fancy_lex.specs.declared.error.Error.{Error}
use Rattle.fancy_lex.specs.declared.flags.Flags.{Flags}
use Rattle.fancy_grammar.specs.GroupInfo.{GroupInfo}
use Rattle.fancy_grammar.specs.ParseResult.{IsTreeOf}
use Rattle.fancy_grammar.specs.Promises.{IsParsed, AreParsedSpans, AreParsedTrivia, IsParseError}
use Rattle.fancy_grammar.specs.Spans.{Span, AreSpansOf, Nests}
use Rattle.fancy_grammar.specs.Tree.{Tree}
use Rattle.fancy_grammar.specs.Trivia.{Trivium, IsTriviaOf, AreInOrder}
use Rattle.fancy_grammar.proofs.BoundLaws.{bounded}
use Rattle.fancy_grammar.proofs.ParsedSpans.{only_spans, spans_of_nodes, spans_nest, spans_cut}
use Rattle.fancy_grammar.proofs.ParsedTreeLaws.{parsed_tree_with, groups_of_raw}
use Rattle.fancy_grammar.proofs.TriviaLaws.{trivia_in_order, trivia_are_parts, trivia_cut, trivia_fill}
use Rattle.fancy_grammar.proofs.TriviaUnique.{only_trivia}
use Rattle.fancy_grammar.proofs.Verdict.{only_tree, no_error}

module _ {f : Flags} {pattern : List ℕ} (utf8 : IsUtf8 pattern) where
  pub parsed : {t : Tree} {m : GroupInfo} → IsTreeOf f (chars pattern) t m → IsParsed f pattern t m
  parsed {t} {m} found = record {
    found = found;
    only = λ e k h. only_tree f (chars pattern) t e m k found h;
    exact = λ k p h. no_error f (chars pattern) t m k p found h;
    bounds = bounded utf8 found;
    returned = parsed_tree_with found;
    groups = groups_of_raw found;
  }

  pub parsed_spans : {t : Tree} {m : GroupInfo} {l : List Span} → IsParsed f pattern t m → AreSpansOf f (chars pattern) l →
      AreParsedSpans f pattern t l
  parsed_spans {t} {m} {l} tree h = record {
    found = h;
    only = λ k other. only_spans l k h other;
    each = spans_of_nodes l t m h tree.found;
    nested = subst (λ n. Nests 0 n t l) (bytes_chars pattern utf8) (spans_nest l t m h tree.found);
    cut = spans_cut l utf8 h;
  }

  pub parsed_trivia : {l : List Trivium} → IsTriviaOf f (chars pattern) l → AreParsedTrivia f pattern l
  parsed_trivia {l} h = record {
    found = h;
    only = λ k other. only_trivia l k h other;
    parts = trivia_are_parts l h;
    in_order = subst (λ n. AreInOrder 0 n l) (bytes_chars pattern utf8) (trivia_in_order l h);
    cut = trivia_cut l utf8 h;
    every_byte = trivia_fill l h;
  }

-- if e is d and f is g, what is true of d under g is true of e under f
pub parse_error : {f g : Flags} {pattern : List ℕ} {d e : Error} → g ≡ f → e ≡ d → IsParseError g pattern d →
    IsParseError f pattern e
parse_error {f} {g} {pattern} {d} {e} same is h =
    subst (λ h. IsParseError h pattern e) same (subst (IsParseError g pattern) (sym is) h)
