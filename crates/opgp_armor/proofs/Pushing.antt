-- A push, part by part.
use Rattle.std.proofs.Common.{◌≡◌, ℕ, ◌+◌, ◌-◌, ◌<◌, ◌≤◌, Bool, true, false, List, [], ◌∷◌, ◌++◌, length, take, drop, refl, sym, ap, ◌∙◌, arith, inl, inr, subst, Option, None, Some}
use Rattle.std.proofs.lemmas.List.{append_assoc, append-nil, length-append, length-take-le, take-take, take-append-le, take_rest, take-append-drop}
use Rattle.std.proofs.lemmas.Bool.{cases_lt}
use Rattle.std.specs.List.{list_all, AllByRecursion}
use Rattle.opgp_octets.specs.declared.fault.Fault.{Fault}
use Rattle.opgp_armor.specs.Rules.{LineRule}
use Rattle.opgp_armor.specs.declared.reader.Dearmor.{Dearmor}
use Rattle.opgp_armor.specs.Cuts.{is_plain, IsLineSplit, Cut, cut, lines_ended}
use Rattle.opgp_armor.specs.Text.{Line, lines}
use Rattle.opgp_armor.specs.Events.{Event, events_of}
use Rattle.opgp_armor.specs.Shown.{Shown}
use Rattle.opgp_armor.specs.Fed.{Stands, Fed, KeepsFed, IsQuiet, rule_of, spare_of}
use Rattle.opgp_armor.proofs.Octets.{AreOctets, all_octets}
use Rattle.opgp_armor.proofs.DataLine.{all_parts}
use Rattle.opgp_armor.proofs.Texts.{IsLine, are_lines, recursion_front}
use Rattle.opgp_armor.proofs.Feeding.{no_event, without_event, no_octet, cut_plain, cut-more, fold_ended, next_part, take_parts, part_fits}
use Rattle.opgp_armor.proofs.Ending.{lines_cut}
use Rattle.opgp_armor.proofs.Showing.{shown_going, shown_stopped}

-- ---- what a reader in any state has shown
ended_are_lines : (given : List ℕ) → AreOctets given → AllByRecursion IsLine (cut given).ended
ended_are_lines given octets = recursion_front IsLine (cut given).ended (lines (cut given).tail) (subst (AllByRecursion IsLine) (lines_cut given) (are_lines given octets))

so_far_are_lines : (ended : Bool) (given : List ℕ) → AreOctets given → AllByRecursion IsLine (lines_ended ended given)
so_far_are_lines false given octets = ended_are_lines given octets
so_far_are_lines true given octets = are_lines given octets

stands_shown : (d : Dearmor) (f : Option Fault) (given : List ℕ) (taken : List Event) → AreOctets given → Stands d f given taken → Shown (rule_of d) (lines_ended d.ended given) (taken ++ events_of d.ready)
stands_shown d None given taken octets going =
    subst (Shown (rule_of d) (lines_ended d.ended given)) going.events
    (shown_going (rule_of d) (lines_ended d.ended given) going.last d.low (so_far_are_lines d.ended given octets) going.ran)
stands_shown d (Some f) given taken octets s =
    let all : AllByRecursion IsLine (s.before ++ s.line ∷ s.after) = subst (AllByRecursion IsLine) s.are (so_far_are_lines d.ended given octets) in
    subst (Shown (rule_of d) (lines_ended d.ended given)) s.events
    (shown_stopped (rule_of d) (lines_ended d.ended given) s.before s.line s.after s.last f.reason d.low (recursion_front IsLine s.before (s.line ∷ s.after) all) s.are s.ran s.stops)

-- What was taken and what is ready are the events of the longest list of first lines with which an armored text begins.
pub shown : (d : Dearmor) (given : List ℕ) (taken : List Event) → Fed d given taken → Shown (rule_of d) (lines_ended d.ended given) (taken ++ events_of d.ready)
shown d given taken fed = stands_shown d d.fault given taken (all_octets given fed.octets) fed.stands

shown_quiet : (d : Dearmor) (given : List ℕ) (taken : List Event) → Fed d given taken → d.ended ≡ false → d.ready ≡ None → Shown (rule_of d) (cut given).ended taken
shown_quiet d given taken fed open_ none =
    subst (Shown (rule_of d) (cut given).ended) (ap (λ v. taken ++ events_of v) none ∙ append-nil taken)
    (subst (λ (v : Bool). Shown (rule_of d) (lines_ended v given) (taken ++ events_of d.ready)) open_ (shown d given taken fed))

take_plain : (k : ℕ) (l : List ℕ) → list_all is_plain l ≡ true → list_all is_plain (take k l) ≡ true
take_plain k l h = (all_parts is_plain (take k l) (drop k l) (ap (list_all is_plain) (take-append-drop k l) ∙ h)).0

-- no line ends before the last octet of a part
front_plain : (piece line : List ℕ) (n : ℕ) (ends : Bool) (k : ℕ) → IsLineSplit piece line n ends → k < n → list_all is_plain (take k piece) ≡ true
front_plain piece line n true k split h =
    let cut_ : n ≡ length line + 1 = sym (length-take-le n piece split.within) ∙ ap length split.front ∙ length-append line (10 ∷ []) in
    let same : take k piece ≡ take k line = sym (take-take k n piece (omega arith)) ∙ ap (take k) split.front ∙ take-append-le k line (10 ∷ []) (omega arith) in
    ap (list_all is_plain) same ∙ take_plain k line split.plain
front_plain piece line n false k split h =
    let same : take k piece ≡ take k line = sym (take-take k n piece (omega arith)) ∙ ap (take k) split.front in
    ap (list_all is_plain) same ∙ take_plain k line split.plain

pub quiet_going : (d : Dearmor) (piece line : List ℕ) (n : ℕ) (ends : Bool) (k : ℕ) (given : List ℕ) (taken : List Event) → Fed d given taken → d.ended ≡ false → d.ready ≡ None → IsLineSplit piece line n ends → k < n
    → Shown (rule_of d) (cut (given ++ take k piece)).ended taken
quiet_going d piece line n ends k given taken fed open_ none split h =
    let now = cut_plain given (take k piece) (front_plain piece line n ends k split h) in
    subst (λ (v : List Line). Shown (rule_of d) v taken) (ap (λ (v : Cut). v.ended) (sym now)) (shown_quiet d given taken fed open_ none)

quiet_by : (d : Dearmor) (f : Option Fault) (given part : List ℕ) (taken : List Event) → (f ≡ None → ⊥) → AreOctets given → Stands d f given taken → d.ended ≡ false → d.ready ≡ None
    → Shown (rule_of d) (cut (given ++ part)).ended taken
quiet_by d None given part taken some octets s open_ none = absurd (some refl)
quiet_by d (Some f) given part taken some octets s open_ none =
    let more = fold_ended (cut given) part in
    let were : (cut given).ended ≡ s.before ++ s.line ∷ s.after = subst (λ (v : Bool). lines_ended v given ≡ s.before ++ s.line ∷ s.after) open_ s.are in
    let all : AllByRecursion IsLine (s.before ++ s.line ∷ s.after) = subst (AllByRecursion IsLine) were (ended_are_lines given octets) in
    let are : (cut (given ++ part)).ended ≡ s.before ++ s.line ∷ (s.after ++ more.0) =
    ap (λ (v : Cut). v.ended) (cut-more given part) ∙ more.1 ∙ ap (λ (v : List Line). v ++ more.0) were ∙ append_assoc s.before (s.line ∷ s.after) more.0 in
    subst (Shown (rule_of d) (cut (given ++ part)).ended) (s.events ∙ ap (λ v. taken ++ events_of v) none ∙ append-nil taken)
    (shown_stopped (rule_of d) (cut (given ++ part)).ended s.before s.line (s.after ++ more.0) s.last f.reason d.low (recursion_front IsLine s.before (s.line ∷ s.after) all) are s.ran s.stops)

pub quiet_stopped : (d : Dearmor) (given part : List ℕ) (taken : List Event) → Fed d given taken → (d.fault ≡ None → ⊥) → d.ended ≡ false → d.ready ≡ None → Shown (rule_of d) (cut (given ++ part)).ended taken
quiet_stopped d given part taken fed some open_ none = quiet_by d d.fault given part taken some (all_octets given fed.octets) fed.stands open_ none

-- ---- how far a push has come
pub record Pushed (d e : Dearmor) (piece : List ℕ) (n : ℕ) : Type 0 where
  pub within : n ≤ length piece
  pub count : e.given ≡ d.given + n
  pub before : n ≡ 0 → e.ready ≡ None
  pub spent : e.spent ≡ false
  pub open_ : e.ended ≡ false
  pub rule : rule_of e ≡ rule_of d
  pub fed : KeepsFed d e (take n piece) []
  pub stopped : (f : Fault) → d.fault ≡ Some f → (e.fault ≡ Some f) × (e.ready ≡ None)
  pub quiet : IsQuiet d piece n
  pub spare : spare_of e ≤ spare_of d

pub pushed_none : (d : Dearmor) (piece : List ℕ) → d.spent ≡ false → d.ended ≡ false → d.ready ≡ None → Pushed d d piece 0
pushed_none d piece spent open_ none = record {
  within = omega arith;
  count = omega arith;
  before = λ e. none;
  spent = spent;
  open_ = open_;
  rule = refl;
  fed = λ given taken fed. no_octet d given (taken ++ []) (no_event d given taken fed);
  stopped = λ f e. (e, none);
  quiet = λ k h. absurd (omega arith);
  spare = omega arith;
}

-- one part more
pub pushed_more : (d m e : Dearmor) (piece : List ℕ) (t n : ℕ) → Pushed d m piece t → 0 < n → n ≤ length (take (length piece - t) (drop t piece)) → e.given ≡ m.given + n → e.spent ≡ m.spent → e.ended ≡ false → rule_of e ≡ rule_of m
    → KeepsFed m e (take n (take (length piece - t) (drop t piece))) []
    → ((f : Fault) → m.fault ≡ Some f → (e.fault ≡ Some f) × (e.ready ≡ None))
    → IsQuiet m (take (length piece - t) (drop t piece)) n
    → spare_of e ≤ spare_of m
    → Pushed d e piece (t + n)
pushed_more d m e piece t n p some within count spent open_ rule fed stopped quiet spare = record {
  within = part_fits piece t n p.within within;
  count = omega (arith, count, p.count);
  before = λ z. absurd (omega arith);
  spent = spent ∙ p.spent;
  open_ = open_;
  rule = rule ∙ p.rule;
  fed = λ given taken f. next_part e given piece t n (taken ++ []) (without_event e _ (taken ++ []) (fed (given ++ take t piece) (taken ++ []) (p.fed given taken f)));
  stopped = λ f is. stopped f (p.stopped f is).0;
  quiet = λ k h given taken f. elim (cases_lt k t) [
    | inl lt ↦ p.quiet k lt given taken f
    | inr ge ↦
        let j : ℕ = k - t in
        let is : t + j ≡ k = omega arith in
        let now = quiet j (omega arith) (given ++ take t piece) taken (without_event m _ taken (p.fed given taken f)) in
        let same : (given ++ take t piece) ++ take j (take (length piece - t) (drop t piece)) ≡ given ++ take k piece =
        ap (λ (v : List ℕ). (given ++ take t piece) ++ take j v) (take_rest piece t)
        ∙ append_assoc given (take t piece) (take j (drop t piece))
        ∙ ap (λ (v : List ℕ). given ++ v) (take_parts t j piece)
        ∙ ap (λ (v : ℕ). given ++ take v piece) is in
        subst (λ (v : LineRule). Shown v (cut (given ++ take k piece)).ended taken) p.rule
        (subst (λ (v : List ℕ). Shown (rule_of m) (cut v).ended taken) same now)
  ];
  spare = omega (arith, spare, p.spare);
}
