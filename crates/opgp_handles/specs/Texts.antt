-- What the calls say that make the canonical text of a document (RFC 9580, 5.2.1.2).
use Rattle.std.specs.Prelude.{◌==◌, if◌then◌else◌, ℕ, Option, Some, None}
use Rattle.opgp_document.specs.declared.canonical_text.CanonicalText.{CanonicalText}
use Rattle.opgp_handles.specs.declared.texts.TextState.{TextState}

-- the text that numbers of C stand for: all zeros are one of which nothing was given
abbrev pub text_of : TextState → CanonicalText
text_of state = record {
  given = state.given;
  last_return = if state.is_behind_return == 0 then None else Some state.last_return;
}

-- the numbers that a call leaves of a text: 1 where the last octet is a carriage return, and zeros
-- where nothing is said
abbrev pub state_by : ℕ → Option ℕ → TextState
state_by given None = record {
  given = given;
  last_return = 0;
  is_behind_return = 0;
  reserved = 0;
}
state_by given (Some place) = record {
  given = given;
  last_return = place;
  is_behind_return = 1;
  reserved = 0;
}

abbrev pub state_of : CanonicalText → TextState
state_of text = state_by text.given text.last_return
