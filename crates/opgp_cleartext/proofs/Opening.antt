-- A message can begin with the lines that lead somewhere, and not with those behind which one is
-- refused.
use Rattle.std.proofs.Common.{◌≡◌, ◌∙◌, ℕ, ◌≤◌, List, [], ◌∷◌, ◌++◌, length, drop, refl, sym, subst, inl, inr, arith, append_assoc}
use Rattle.std.proofs.lemmas.List.{length-append}
use Rattle.std.specs.List.{AllByRecursion}
use Rattle.opgp_armor.specs.Text.{Line, content, lines, offset}
use Rattle.opgp_armor.specs.Written.{text_of}
use Rattle.opgp_armor.proofs.Texts.{IsPlain, lines-text_plain, recursion_front}
use Rattle.opgp_cleartext.specs.Cleartext.{HasCleartext, IsBegin, IsBlank, IsSignatureLine, Says, message_line, signature_line}
use Rattle.opgp_cleartext.specs.Faults.{LeadsTo, LineFault, MayCome, Situation, InFront, Headers, Text, reason_of}
use Rattle.opgp_cleartext.specs.Line.{SaysLine, without_return}
use Rattle.opgp_cleartext.proofs.Grammar.{begin_front, blank_headers, each_more, leads_next, says_text}
use Rattle.opgp_cleartext.proofs.Passing.{plain_lines}
use Rattle.opgp_cleartext.proofs.Whole.{fault_read, message_read}

pub record Opened (most : ℕ) (before : List Line) : Type 0 where
  pub other : List ℕ
  pub more : List Line
  pub document : List (List ℕ)
  pub rest : List ℕ
  pub begins : lines other ≡ before ++ more
  pub is : HasCleartext most other document rest

opened_less : (most : ℕ) (before : List Line) (l : Line) → Opened most (before ++ l ∷ []) → Opened most before
opened_less most before l o = record {
  other = o.other;
  more = l ∷ o.more;
  document = o.document;
  rest = o.rest;
  begins = o.begins ∙ append_assoc before (l ∷ []) o.more;
  is = o.is;
}

-- ---- the lines that may come
empty_blank : (most : ℕ) → IsBlank most []
unfolding content
empty_blank most = record { blank = refl; within = omega arith }

message_begins : (most : ℕ) → 34 ≤ most → IsBegin most message_line
unfolding content
message_begins most h = let size : length message_line ≡ 34 = refl in record { begins = refl; within = omega arith }

bare_empty : SaysLine (without_return []) []
unfolding without_return
bare_empty = record { blanks = []; are_blanks = tt; clean = refl; no_blank_last = refl; spelled = inr (refl, refl) }

empty_says : (most : ℕ) → Says most [] []
empty_says most = record { says = bare_empty; within = omega arith }

signature_signs : (most : ℕ) → 34 ≤ most → IsSignatureLine most signature_line
unfolding content without_return
signature_signs most h = let size : length signature_line ≡ 29 = refl in record { begins = refl; clean = refl; within = omega arith }

empty_plain : IsPlain []
empty_plain = refl

-- ---- and what comes of them
opened_text : (most : ℕ) (before : List Line) (d : List (List ℕ)) → 34 ≤ most → AllByRecursion IsPlain before → LeadsTo most before (Text (d ++ [] ∷ [])) → Opened most before
opened_text most before d h plain leads =
    let all : AllByRecursion IsPlain (before ++ signature_line ∷ []) = each_more IsPlain before signature_line plain refl in
    let are : lines (text_of (before ++ signature_line ∷ [])) ≡ before ++ signature_line ∷ [] = lines-text_plain (before ++ signature_line ∷ []) all in
    record {
      other = text_of (before ++ signature_line ∷ []);
      more = signature_line ∷ [];
      document = d ++ [] ∷ [];
      rest = drop (offset before) (text_of (before ++ signature_line ∷ []));
      begins = are;
      is = record {
        front = before;
        signature = signature_line;
        more = [];
        are = are;
        is_text = leads;
        some = omega (arith, length-append d ([] ∷ []));
        is_signature = signature_signs most h;
        rest_is = refl;
      };
    }

opened_said : (most : ℕ) (before : List Line) (d : List (List ℕ)) → 34 ≤ most → AllByRecursion IsPlain before → LeadsTo most before (Text d) → Opened most before
opened_said most before d h plain leads =
    opened_less most before []
    (opened_text most (before ++ [] ∷ []) d h (each_more IsPlain before [] plain refl)
    (leads_next most before (Text d) (Text (d ++ [] ∷ [])) [] leads (says_text most d [] [] (empty_says most))))

opened_headers : (most : ℕ) (before : List Line) → 34 ≤ most → AllByRecursion IsPlain before → LeadsTo most before Headers → Opened most before
opened_headers most before h plain leads =
    opened_less most before []
    (opened_said most (before ++ [] ∷ []) [] h (each_more IsPlain before [] plain refl)
    (leads_next most before Headers (Text []) [] leads (blank_headers most [] (empty_blank most))))

opened_front : (most : ℕ) (before : List Line) → 34 ≤ most → AllByRecursion IsPlain before → LeadsTo most before InFront → Opened most before
opened_front most before h plain leads =
    opened_less most before message_line
    (opened_headers most (before ++ message_line ∷ []) h (each_more IsPlain before message_line plain refl)
    (leads_next most before InFront Headers message_line leads (begin_front most message_line (message_begins most h))))

opened : (most : ℕ) (before : List Line) (s : Situation) → 34 ≤ most → AllByRecursion IsPlain before → LeadsTo most before s → Opened most before
opened most before InFront h plain leads = opened_front most before h plain leads
opened most before Headers h plain leads = opened_headers most before h plain leads
opened most before (Text d) h plain leads = opened_said most before d h plain leads

pub opens : (most : ℕ) (text : List ℕ) (before after : List Line) (s : Situation) → 34 ≤ most → lines text ≡ before ++ after → LeadsTo most before s → Opened most before
opens most text before after s h are leads =
    opened most before s h (recursion_front IsPlain before after (subst (AllByRecursion IsPlain) are (plain_lines text))) leads

-- ---- none behind a refused line
pub none_behind : (most : ℕ) (text : List ℕ) (before after : List Line) (line : Line) (s : Situation) (d : List (List ℕ)) (r : List ℕ) → LeadsTo most before s → (MayCome most s line → ⊥)
    → lines text ≡ before ++ line ∷ after → HasCleartext most text d r → ⊥
none_behind most text before after line s d r leads refused are h =
    let fault : LineFault most text (reason_of most s line) (offset before) = record {
      before = before;
      line = line;
      after = after;
      situation = s;
      are = are;
      leads = leads;
      refused = refused;
      why_is = refl;
      pos_is = refl;
    } in
    let both = sym (message_read most text d r h) ∙ fault_read most text (reason_of most s line) (offset before) (inl fault) in
    absurd cc
