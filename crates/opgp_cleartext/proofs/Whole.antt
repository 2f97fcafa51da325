-- Whole texts: what is read of them is a message, or a fault, and the other way round.
use Rattle.std.proofs.Common.{◌≡◌, ◌∙◌, ◌⊎◌, ℕ, ◌+◌, ◌<◌, List, [], ◌∷◌, ◌++◌, length, drop, Result, Ok, Err, refl, sym, ap, subst, inl, inr, arith, append_assoc, append-nil}
use Rattle.std.proofs.lemmas.List.Sums.{fold-append}
use Rattle.std.specs.List.{AllByRecursion, AllZip, fold}
use Rattle.opgp_armor.specs.Text.{Line, lines, offset}
use Rattle.opgp_octets.specs.declared.fault.Fault.{Fault}
use Rattle.opgp_octets.specs.declared.fault.Reason.{Reason}
use Rattle.opgp_cleartext.specs.Cleartext.{HasCleartext, IsBlank, IsHashLine, IsHead, IsSignatureLine, IsText, Says}
use Rattle.opgp_cleartext.specs.Faults.{CleartextFault, IsCleartextFault, EndFault, LineFault, Situation, InFront, Headers, Text, LeadsTo, end_reason, reason_of}
use Rattle.opgp_cleartext.specs.Machine.{FailsSo, Step, Next, Last, Refused, step, go, moved, ended, reading, Progress, Going, Found, Failed}
use Rattle.opgp_cleartext.proofs.Grammar.{begin_front, blank_front, blank_headers, hash_headers, leads_next, may_not, not_refused, offset-append, offset-push, refused_why, says_text, signature_text, signs}
use Rattle.opgp_cleartext.proofs.Walking.{failed_stays, found_stays}

-- ---- what a walk over lines comes to, by the situation that these lead to
pub record Finding (most : ℕ) (ls : List Line) (d : List (List ℕ)) (p : ℕ) : Type 0 where
  pub front : List Line
  pub signature : Line
  pub more : List Line
  pub are : ls ≡ front ++ signature ∷ more
  pub leads : LeadsTo most front (Text d)
  pub some : 0 < length d
  pub is_signature : IsSignatureLine most signature
  pub place : p ≡ offset front

pub record Failing (most : ℕ) (ls : List Line) (why : Reason) (p : ℕ) : Type 0 where
  pub before : List Line
  pub line : Line
  pub after : List Line
  pub situation : Situation
  pub are : ls ≡ before ++ line ∷ after
  pub leads : LeadsTo most before situation
  pub refused : step most situation line ≡ Refused why
  pub place : p ≡ offset before

abbrev pub CameTo : ℕ → List Line → Progress → Type 0
CameTo most ls (Going t p) = LeadsTo most ls t
CameTo most ls (Found d p) = Finding most ls d p
CameTo most ls (Failed why p) = Failing most ls why p

-- the line that is next, and those behind it
walked_last : (most : ℕ) (before ls : List Line) (s : Situation) (at : ℕ) (l : Line) (d : List (List ℕ)) → LeadsTo most before s → at ≡ offset before → step most s l ≡ Last d
    → Finding most (before ++ l ∷ ls) d at
walked_last most before ls s at l d leads place h =
    let k = signs most s l d h in
    record {
      front = before;
      signature = l;
      more = ls;
      are = refl;
      leads = subst (LeadsTo most before) k.text leads;
      some = k.some;
      is_signature = k.is;
      place = place;
    }

walk_step : (most : ℕ) (before : List Line) (l : Line) (ls : List Line) (s : Situation) (at : ℕ) (r : Step) → LeadsTo most before s → at ≡ offset before → step most s l ≡ r
    → ((t : Situation) → LeadsTo most (before ++ l ∷ []) t → CameTo most ((before ++ l ∷ []) ++ ls) (fold (go most) (Going t (at + (length l + 1))) ls))
    → CameTo most (before ++ l ∷ ls) (fold (go most) (moved r at (length l)) ls)
walk_step most before l ls s at (Next t) leads place h further =
    subst (λ (ms : List Line). CameTo most ms (fold (go most) (Going t (at + (length l + 1))) ls)) (append_assoc before (l ∷ []) ls)
    (further t (leads_next most before s t l leads h))
walk_step most before l ls s at (Last d) leads place h further =
    subst (CameTo most (before ++ l ∷ ls)) (sym (found_stays most d at ls)) (walked_last most before ls s at l d leads place h)
walk_step most before l ls s at (Refused why) leads place h further =
    subst (CameTo most (before ++ l ∷ ls)) (sym (failed_stays most why at ls)) (record {
      before = before;
      line = l;
      after = ls;
      situation = s;
      are = refl;
      leads = leads;
      refused = h;
      place = place;
    })

walk : (most : ℕ) (before ls : List Line) (s : Situation) (at : ℕ) → LeadsTo most before s → at ≡ offset before → CameTo most (before ++ ls) (fold (go most) (Going s at) ls)
walk most before [] s at leads place = subst (λ (ms : List Line). LeadsTo most ms s) (sym (append-nil before)) leads
walk most before (l ∷ ls) s at leads place =
    walk_step most before l ls s at (step most s l) leads place refl
    (λ t ahead. walk most (before ++ l ∷ []) ls t (at + (length l + 1)) ahead (omega (arith, place, offset-push before l)))

pub came : (most : ℕ) (ls : List Line) → CameTo most ls (fold (go most) (Going InFront 0) ls)
came most ls = walk most [] ls InFront 0 tt refl

-- ---- and lines that lead somewhere are walked so
walk_blanks : (most at : ℕ) (ls : List Line) → AllByRecursion (IsBlank most) ls → fold (go most) (Going InFront at) ls ≡ Going InFront (at + offset ls)
walk_blanks most at [] all = ap (Going InFront) (omega arith)
walk_blanks most at (l ∷ ls) all =
    ap (λ (r : Step). fold (go most) (moved r at (length l)) ls) (blank_front most l all.0)
    ∙ walk_blanks most (at + (length l + 1)) ls all.1 ∙ ap (Going InFront) (omega arith)

walk_hashes : (most at : ℕ) (ls : List Line) → AllByRecursion (IsHashLine most) ls → fold (go most) (Going Headers at) ls ≡ Going Headers (at + offset ls)
walk_hashes most at [] all = ap (Going Headers) (omega arith)
walk_hashes most at (l ∷ ls) all =
    ap (λ (r : Step). fold (go most) (moved r at (length l)) ls) (hash_headers most l all.0)
    ∙ walk_hashes most (at + (length l + 1)) ls all.1 ∙ ap (Going Headers) (omega arith)

walk_said : (most at : ℕ) (d e : List (List ℕ)) (ls : List Line) → AllZip (Says most) ls e → fold (go most) (Going (Text d) at) ls ≡ Going (Text (d ++ e)) (at + offset ls)
walk_said most at d [] [] all = ap (λ (x : List (List ℕ)). Going (Text x) at) (sym (append-nil d)) ∙ ap (Going (Text (d ++ []))) (omega arith)
walk_said most at d (s ∷ e) [] all = absurd all
walk_said most at d [] (l ∷ ls) all = absurd all
walk_said most at d (s ∷ e) (l ∷ ls) all =
    ap (λ (r : Step). fold (go most) (moved r at (length l)) ls) (says_text most d l s all.0)
    ∙ walk_said most (at + (length l + 1)) (d ++ s ∷ []) e ls all.1
    ∙ ap (λ (x : List (List ℕ)). Going (Text x) (at + (length l + 1) + offset ls)) (append_assoc d (s ∷ []) e)
    ∙ ap (Going (Text (d ++ s ∷ e))) (omega arith)

walk_head : (most : ℕ) (ls : List Line) → IsHead most ls → fold (go most) (Going InFront 0) ls ≡ Going Headers (offset ls)
walk_head most ls h =
    ap (λ (ms : List Line). fold (go most) (Going InFront 0) ms) h.are
    ∙ fold-append (go most) (Going InFront 0) h.blanks (h.begin ∷ h.headers)
    ∙ ap (λ (p : Progress). fold (go most) p (h.begin ∷ h.headers)) (walk_blanks most 0 h.blanks h.are_blanks)
    ∙ ap (λ (r : Step). fold (go most) (moved r (0 + offset h.blanks) (length h.begin)) h.headers) (begin_front most h.begin h.is_begin)
    ∙ walk_hashes most (0 + offset h.blanks + (length h.begin + 1)) h.headers h.are_headers
    ∙ ap (Going Headers) (omega (arith, ap offset h.are, offset-append h.blanks (h.begin ∷ h.headers)))

walk_text : (most : ℕ) (ls : List Line) (d : List (List ℕ)) → IsText most ls d → fold (go most) (Going InFront 0) ls ≡ Going (Text d) (offset ls)
walk_text most ls d h =
    ap (λ (ms : List Line). fold (go most) (Going InFront 0) ms) h.are
    ∙ fold-append (go most) (Going InFront 0) h.head (h.gap ∷ h.said)
    ∙ ap (λ (p : Progress). fold (go most) p (h.gap ∷ h.said)) (walk_head most h.head h.is_head)
    ∙ ap (λ (r : Step). fold (go most) (moved r (offset h.head) (length h.gap)) h.said) (blank_headers most h.gap h.is_gap)
    ∙ walk_said most (offset h.head + (length h.gap + 1)) [] d h.said h.are_said
    ∙ ap (Going (Text d)) (omega (arith, ap offset h.are, offset-append h.head (h.gap ∷ h.said)))

pub walks : (most : ℕ) (ls : List Line) (s : Situation) → LeadsTo most ls s → fold (go most) (Going InFront 0) ls ≡ Going s (offset ls)
walks most ls InFront leads = walk_blanks most 0 ls leads ∙ ap (Going InFront) (omega arith)
walks most ls Headers leads = walk_head most ls leads
walks most ls (Text d) leads = walk_text most ls d leads

walks_on : (most : ℕ) (before : List Line) (l : Line) (after : List Line) (s : Situation) → LeadsTo most before s
    → fold (go most) (Going InFront 0) (before ++ l ∷ after) ≡ fold (go most) (moved (step most s l) (offset before) (length l)) after
walks_on most before l after s leads =
    fold-append (go most) (Going InFront 0) before (l ∷ after) ∙ ap (λ (p : Progress). fold (go most) p (l ∷ after)) (walks most before s leads)

-- ---- what an answer has
abbrev pub Answer : Type 0
Answer = Result (List (List ℕ) × ℕ) (Reason × ℕ)

pub ok_same : (d e : List (List ℕ)) (p q : ℕ) → ◌≡◌ {A = Answer} (Ok (d, p)) (Ok (e, q)) → (d ≡ e) × (p ≡ q)
ok_same d e p q h =
    let pair : ◌≡◌ {A = List (List ℕ) × ℕ} (d, p) (e, q) = cc in
    (ap (λ (x : List (List ℕ) × ℕ). x.0) pair, ap (λ (x : List (List ℕ) × ℕ). x.1) pair)

pub err_same : (a b : Reason) (p q : ℕ) → ◌≡◌ {A = Answer} (Err (a, p)) (Err (b, q)) → (a ≡ b) × (p ≡ q)
err_same a b p q h =
    let pair : ◌≡◌ {A = Reason × ℕ} (a, p) (b, q) = cc in
    (ap (λ (x : Reason × ℕ). x.0) pair, ap (λ (x : Reason × ℕ). x.1) pair)

-- ---- messages
pub message_read : (most : ℕ) (text : List ℕ) (d : List (List ℕ)) (r : List ℕ) (h : HasCleartext most text d r)
    → reading most (length text) InFront 0 (lines text) ≡ Ok (d, offset h.front)
unfolding reading
message_read most text d r h =
    ap (λ (ls : List Line). ended (length text) (fold (go most) (Going InFront 0) ls)) h.are
    ∙ ap (ended (length text)) (walks_on most h.front h.signature h.more (Text d) h.is_text
    ∙ ap (λ (x : Step). fold (go most) (moved x (offset h.front) (length h.signature)) h.more) (signature_text most d h.signature h.is_signature h.some)
    ∙ found_stays most d (offset h.front) h.more)

found_message : (most : ℕ) (text : List ℕ) (d : List (List ℕ)) (p : ℕ) → Finding most (lines text) d p → HasCleartext most text d (drop p text)
found_message most text d p f = record {
  front = f.front;
  signature = f.signature;
  more = f.more;
  are = f.are;
  is_text = f.leads;
  some = f.some;
  is_signature = f.is_signature;
  rest_is = ap (λ (n : ℕ). drop n text) f.place;
}

message_of : (most : ℕ) (text : List ℕ) (d : List (List ℕ)) (p : ℕ) (x : Progress) → CameTo most (lines text) x → ended (length text) x ≡ Ok (d, p)
    → HasCleartext most text d (drop p text)
message_of most text d p (Going s at) k h = absurd cc
message_of most text d p (Failed why at) k h = absurd cc
message_of most text d p (Found e at) k h =
    let f = ok_same e d at p h in
    let same : e ≡ d = f.0 in
    let place : at ≡ p = f.1 in
    found_message most text d p (subst (λ (n : ℕ). Finding most (lines text) d n) place (subst (λ (x : List (List ℕ)). Finding most (lines text) x at) same k))

pub read_message : (most : ℕ) (text : List ℕ) (d : List (List ℕ)) (p : ℕ) → reading most (length text) InFront 0 (lines text) ≡ Ok (d, p)
    → HasCleartext most text d (drop p text)
unfolding reading
read_message most text d p h = message_of most text d p (fold (go most) (Going InFront 0) (lines text)) (came most (lines text)) h

-- ---- faults
line_read : (most : ℕ) (text : List ℕ) (why : Reason) (pos : ℕ) → LineFault most text why pos → reading most (length text) InFront 0 (lines text) ≡ Err (why, pos)
unfolding reading
line_read most text why pos f =
    ap (λ (ls : List Line). ended (length text) (fold (go most) (Going InFront 0) ls)) f.are
    ∙ ap (ended (length text)) (walks_on most f.before f.line f.after f.situation f.leads
    ∙ ap (λ (x : Step). fold (go most) (moved x (offset f.before) (length f.line)) f.after) (may_not most f.situation f.line f.refused)
    ∙ failed_stays most (reason_of most f.situation f.line) (offset f.before) f.after)
    ∙ ap (λ (w : Reason). Err (w, offset f.before)) (sym f.why_is) ∙ ap (λ (n : ℕ). Err (why, n)) (sym f.pos_is)

end_read : (most : ℕ) (text : List ℕ) (why : Reason) (pos : ℕ) → EndFault most text why pos → reading most (length text) InFront 0 (lines text) ≡ Err (why, pos)
unfolding reading
end_read most text why pos f =
    ap (ended (length text)) (walks most (lines text) f.situation f.leads)
    ∙ ap (λ (w : Reason). Err (w, length text)) (sym f.why_is) ∙ ap (λ (n : ℕ). Err (why, n)) (sym f.pos_is)

pub fault_read : (most : ℕ) (text : List ℕ) (why : Reason) (pos : ℕ) → CleartextFault most text why pos → reading most (length text) InFront 0 (lines text) ≡ Err (why, pos)
fault_read most text why pos (inl f) = line_read most text why pos f
fault_read most text why pos (inr f) = end_read most text why pos f

fault_of : (most : ℕ) (text : List ℕ) (why : Reason) (pos : ℕ) (x : Progress) → CameTo most (lines text) x → ended (length text) x ≡ Err (why, pos)
    → CleartextFault most text why pos
fault_of most text why pos (Found e at) k h = absurd cc
fault_of most text why pos (Going s at) k h =
    let f = err_same (end_reason s) why (length text) pos h in
    inr (record { situation = s; leads = k; why_is = sym f.0; pos_is = sym f.1 })
fault_of most text why pos (Failed r at) k h =
    let f = err_same r why at pos h in
    inl (record {
      before = k.before;
      line = k.line;
      after = k.after;
      situation = k.situation;
      are = k.are;
      leads = k.leads;
      refused = not_refused most k.situation k.line r k.refused;
      why_is = sym f.0 ∙ refused_why most k.situation k.line r k.refused;
      pos_is = sym f.1 ∙ k.place;
    })

pub read_fault : (most : ℕ) (text : List ℕ) (why : Reason) (pos : ℕ) → reading most (length text) InFront 0 (lines text) ≡ Err (why, pos)
    → CleartextFault most text why pos
unfolding reading
read_fault most text why pos h = fault_of most text why pos (fold (go most) (Going InFront 0) (lines text)) (came most (lines text)) h

-- ---- one of the two
abbrev pub Read : ℕ → List ℕ → Type 0
Read most text = ((d : List (List ℕ)) × (r : List ℕ) × HasCleartext most text d r) ⊎ ((why : Reason) × (pos : ℕ) × CleartextFault most text why pos)

either_of : (most : ℕ) (text : List ℕ) (x : Result (List (List ℕ) × ℕ) (Reason × ℕ)) → reading most (length text) InFront 0 (lines text) ≡ x → Read most text
either_of most text (Ok f) h = inl (f.0, drop f.1 text, read_message most text f.0 f.1 h)
either_of most text (Err e) h = inr (e.0, e.1, read_fault most text e.0 e.1 h)

pub either : (most : ℕ) (text : List ℕ) → Read most text
either most text = either_of most text (reading most (length text) InFront 0 (lines text)) refl

pub fault_told : (most : ℕ) (text : List ℕ) (f : Fault) (read : Answer) → reading most (length text) InFront 0 (lines text) ≡ read → FailsSo read f → IsCleartextFault most text f
fault_told most text f read h k = record {
  layer_is = k.layer_is;
  block_is = k.block_is;
  inner_is = k.inner_is;
  found = read_fault most text f.reason f.pos (h ∙ k.read_is);
}
