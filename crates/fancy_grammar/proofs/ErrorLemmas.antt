-- The messages of errors, as lists of characters.
use Rattle.std.proofs.Common.{ℕ}
use Rattle.std.specs.Str.{chars}
use Rattle.fancy_lex.specs.Located.{general_parse_error}
use Rattle.fancy_lex.specs.ErrorTable.{close_paren_expected, end_expected, body_expected}
use Rattle.fancy_lex.specs.declared.error.ReadError.{ReadError}
use Rattle.fancy_grammar.specs.Errors.{IsThisError}

module _ (e : ReadError) (p : ℕ) where
  pub says_close_paren : IsThisError e (record { reach = p; kind = general_parse_error (chars close_paren_expected) }) →
      IsThisError e (record { reach = p; kind = general_parse_error close_paren_expected })
  unfolding chars
  says_close_paren h = h

  pub says_end : IsThisError e (record { reach = p; kind = general_parse_error (chars end_expected) }) →
      IsThisError e (record { reach = p; kind = general_parse_error end_expected })
  unfolding chars
  says_end h = h

  pub says_no_body : IsThisError e (record { reach = p; kind = general_parse_error (chars body_expected) }) →
      IsThisError e (record { reach = p; kind = general_parse_error body_expected })
  unfolding chars
  says_no_body h = h
