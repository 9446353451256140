-- What several calls promise alike: when they refuse bytes, flags and numbers, what they write, and what stays as it was.
use Rattle.std.specs.Prelude.{◌≡◌, ◌≢◌, ◌<◌, ℕ, List, length}
use Rattle.fancy_lex.specs.Located.{Kind, kind_text}
use Rattle.fancy_lex.specs.declared.flags.Flags.{Flags}
use Rattle.fancy_c.specs.Buffer.{Fills}
use Rattle.fancy_c.specs.CallResult.{number_of_kind, IsReported, IsErrorOfBytes, IsNoUtf8}
use Rattle.fancy_c.specs.declared.call_result.CallResult.{CallResult}
use Rattle.fancy_c.specs.declared.call_result.TheConstants.{STATUS_OK, STATUS_REFUSED, STATUS_NOT_UTF8}
use Rattle.fancy_c.specs.declared.call_result.TheConstants.{STATUS_BUFFER_TOO_SHORT, ERROR_NONE}

-- a call that takes an argument only if it is known
pub record TakesOnly (is_known : Type 0) (unknown_status : ℕ) (a : CallResult) : Type 0 where
  -- a known argument never gets the status
  pub known : is_known → a.status ≢ unknown_status
  -- every other argument gets it
  pub unknown : (is_known → ⊥) → a.status ≡ unknown_status

-- the number is that of the kind of the error of the pattern, and the position is its position
abbrev pub IsErrorAt : Flags → List ℕ → ℕ → ℕ → Type 0
IsErrorAt f pattern kind position = (k : Kind) × (kind ≡ number_of_kind k) × IsErrorOfBytes f pattern k position

-- a call that refuses bytes: IsError says which kind and position it returns with an error, and IsUtf8End at which
-- position bytes stop being UTF-8
pub record Refuses (IsError : ℕ → ℕ → Type 0) (IsUtf8End : ℕ → Type 0) (a : CallResult) : Type 0 where
  -- they are those of the error
  pub refused : a.status ≡ STATUS_REFUSED → IsError a.kind a.position
  -- the bytes are not UTF-8 from the position on
  pub no_utf8 : a.status ≡ STATUS_NOT_UTF8 → IsUtf8End a.position
  -- without an error there is no kind
  pub no_kind : a.status ≢ STATUS_REFUSED → a.kind ≡ ERROR_NONE
  -- for any other status the position is 0
  pub no_position : a.status ≢ STATUS_REFUSED → a.status ≢ STATUS_NOT_UTF8 → a.position ≡ 0

-- a call that refuses a pattern with the kind and the position of its error, and bytes that are not UTF-8
abbrev pub RefusesPattern : Flags → List ℕ → CallResult → Type 0
RefusesPattern f pattern a = Refuses (IsErrorAt f pattern) (IsNoUtf8 pattern) a

-- a call that refuses only bytes that are not UTF-8
abbrev pub RefusesBytes : List ℕ → CallResult → Type 0
RefusesBytes text a = Refuses (λ _ _. ⊥) (IsNoUtf8 text) a

-- a call that gets no pattern and no text: it returns neither status, no kind, and the position 0
abbrev pub RefusesNothing : CallResult → Type 0
RefusesNothing a = Refuses (λ _ _. ⊥) (λ _. ⊥) a

-- a call that writes a text, of which P holds, into a buffer
pub record WritesText (P : List ℕ → Type 0) (old new : List ℕ) (a : CallResult) : Type 0 where
  -- the text is at the front of the buffer, and the size is that of the text
  pub read : a.status ≡ STATUS_OK → (w : List ℕ) × P w × (a.size ≡ length w) × Fills old new w
  -- the buffer is too short for the text, and the size is that of the text
  pub short : a.status ≡ STATUS_BUFFER_TOO_SHORT → (w : List ℕ) × P w × (a.size ≡ length w) × (length old < length w)
  -- unless the text is written, the buffer is as it was
  pub kept : a.status ≢ STATUS_OK → new ≡ old
  -- without a text the size is 0
  pub no_size : a.status ≢ STATUS_OK → a.status ≢ STATUS_BUFFER_TOO_SHORT → a.size ≡ 0

-- a call that writes the message of a pattern's error into a buffer
pub record WritesMessage (f : Flags) (pattern old new : List ℕ) (a : CallResult) : Type 0 where
  -- the pattern has the error, and its message is at the front of the buffer
  pub refused : a.status ≡ STATUS_REFUSED → (k : Kind) × IsReported a a.position k × IsErrorOfBytes f pattern k a.position
      × Fills old new (kind_text k)
  -- the pattern has the error, and the buffer is too short for its message
  pub short_message : a.status ≡ STATUS_BUFFER_TOO_SHORT → a.kind ≢ ERROR_NONE → (k : Kind) × IsReported a a.position k
      × IsErrorOfBytes f pattern k a.position × (length old < a.size)
  -- the bytes are not UTF-8 from the position on
  pub no_utf8 : a.status ≡ STATUS_NOT_UTF8 → IsNoUtf8 pattern a.position
  -- for any other status there is no kind
  pub no_kind : a.status ≢ STATUS_REFUSED → a.status ≢ STATUS_BUFFER_TOO_SHORT → a.kind ≡ ERROR_NONE
  -- without a kind the position is 0, if the bytes are UTF-8
  pub no_position : a.kind ≡ ERROR_NONE → a.status ≢ STATUS_NOT_UTF8 → a.position ≡ 0
  -- without a kind the size is 0
  pub no_size : a.kind ≡ ERROR_NONE → a.size ≡ 0
