-- Octets that pass the front.
use Rattle.std.proofs.Common.{◌≡◌, get_or, ℕ, ◌+◌, ◌-◌, ◌*◌, ◌^◌, ◌%◌, ◌<◌, ◌≤◌, Bool, true, false, List, [], ◌∷◌, ◌++◌, length, take, drop, refl, sym, ap, ◌∙◌, subst, inl, inr, Option, None, Some, Ok, IfSome, ◌⊎◌, arith, append_assoc, append-nil}
use Rattle.std.proofs.lemmas.Bool.{lt-leb}
use Rattle.std.proofs.lemmas.List.{take-append-drop}
use Rattle.std.proofs.Math.Seq.{take-add}
use Rattle.opgp_octets.specs.declared.limits.Limits.{Limits}
use Rattle.opgp_armor.specs.declared.label.Label.{Label}
use Rattle.opgp_armor.specs.declared.label.Label.TheVariants.{Message}
use Rattle.opgp_keyring.specs.Composition.{Item, placed_in}
use Rattle.opgp_codec.specs.declared.accepts.Accepts.{Accepts}
use Rattle.opgp_codec.specs.declared.found.Opening.{Opening}
use Rattle.opgp_codec.specs.declared.blocks.Blocks.{Blocks}
use Rattle.opgp_codec.specs.declared.items.Front.{Front}
use Rattle.opgp_codec.specs.declared.items.Front.TheVariants.{Undecided, Binary, Armored}
use Rattle.opgp_codec.specs.declared.mode.Mode.{Mode}
use Rattle.opgp_codec.specs.declared.mode.Mode.TheVariants.{Auto}
use Rattle.opgp_codec.specs.declared.text.Behind.{Behind}
use Rattle.opgp_codec.specs.declared.text.Behind.TheVariants as behind
use Rattle.opgp_codec.specs.declared.text.Text.{Text}
use Rattle.opgp_codec.specs.Blocks.{Ends, Framed, has_begun, number_of, packet_count, part_of}
use Rattle.opgp_codec.specs.Items.{Decides, Moves, Passed, work_in}
use Rattle.opgp_codec.specs.Reading.{TextBlock, is_binary}
use Rattle.opgp_codec.specs.Text.{IsEnd, Through, is_known, waiting_in, work_behind, work_of}

text_told : (mode : Mode) (input : List ℕ) (first : ℕ) → mode ≡ Auto → input ≡ [] → first < 128 → Decides mode (input ++ first ∷ []) false
text_told mode input first auto none small more = rw (auto, none) (lt-leb 128 first small)

-- what some octets tell, more tell
told_more : (mode : Mode) (seen more : List ℕ) (b : Bool) → Decides mode seen b → Decides mode (seen ++ more) b
told_more mode seen more b told rest = subst (λ (l : List ℕ). is_binary mode l ≡ b) (sym (append_assoc seen more rest)) (told (more ++ rest))

-- what the first octet of a piece tells, octets of it tell that a step has taken, unless it has taken none
part_told : (mode : Mode) (input piece : List ℕ) (r : Option ℕ) (b : Bool) → Decides mode (input ++ take 1 piece) b → IfSome r (λ n. (0 < n) ⊎ Decides mode input b) → Decides mode (input ++ part_of r piece) b
part_told mode input piece None b told moves =
    subst (λ (l : List ℕ). Decides mode l b) (append_assoc input (take 1 piece) (drop 1 piece) ∙ ap (λ (l : List ℕ). input ++ l) (take-append-drop 1 piece)) (told_more mode (input ++ take 1 piece) (drop 1 piece) b told)
part_told mode input piece (Some n) b told (inl some) =
    let whole : 1 + (n - 1) ≡ n = omega (arith, some) in
    let cut : take 1 piece ++ take (n - 1) (drop 1 piece) ≡ take n piece = sym (take-add 1 (n - 1) piece) ∙ ap (λ (k : ℕ). take k piece) whole in
    subst (λ (l : List ℕ). Decides mode l b) (append_assoc input (take 1 piece) (take (n - 1) (drop 1 piece)) ∙ ap (λ (l : List ℕ). input ++ l) cut) (told_more mode (input ++ take 1 piece) (take (n - 1) (drop 1 piece)) b told)
part_told mode input piece (Some n) b told (inr before) = told_more mode input (take n piece) b before

moves_told : (mode : Mode) (input : List ℕ) (old new : ℕ) (r : Option ℕ) → (0 < old → Decides mode input false) → IfSome r (λ n. (0 < n) ⊎ (new < old)) → IfSome r (λ n. (0 < n) ⊎ Decides mode input false)
moves_told mode input old new None before moves = tt
moves_told mode input old new (Some n) before (inl some) = inl some
moves_told mode input old new (Some n) before (inr less) = inr (before (omega (arith, less)))

takes_told : (mode : Mode) (input : List ℕ) (r : Option ℕ) (m : ℕ) → IfSome r (λ n. (0 < n) × (n ≤ m)) → IfSome r (λ n. (0 < n) ⊎ Decides mode input true)
takes_told mode input None m moves = tt
takes_told mode input (Some n) m moves = inl moves.0

pub told_now : (mode : Mode) (input : List ℕ) (b : Bool) → Decides mode input b → is_binary mode input ≡ b
told_now mode input b told = subst (λ (l : List ℕ). is_binary mode l ≡ b) (append-nil input) (told [])

module _ (accepts : Accepts) (mode : Mode) (limits : Limits) where
  -- where nothing has come, no label was found
  pub undecided_fresh : (front : Front) (f : Blocks) (seen input : List ℕ) (items : List Item) → front ≡ Undecided → Passed accepts mode limits front f seen input items → has_begun f ≡ false
  undecided_fresh Undecided f seen input items is passed = passed.3
  undecided_fresh Binary f seen input items is passed = cc
  undecided_fresh (Armored t) f seen input items is passed = cc

  -- a first octet below 128 tells that the input is armored
  pub decide_text : (t : Text) (old f : Blocks) (front : Front) (first : ℕ) (input : List ℕ) (items : List Item) → front ≡ Undecided → Passed accepts mode limits front old input input items → first < 128 → work_of t ≡ 0
      → ((items : List Item) → Framed accepts limits f [] (Some Message) [] items → Through accepts limits t f [] items)
      → ((limits : Limits) (done : List TextBlock) (was : Option Label) (octets : List ℕ) (items : List Item) → Framed accepts limits old done was octets items → Framed accepts limits f done (Some Message) [] items)
      → Passed accepts mode limits (Armored t) f (input ++ first ∷ []) input items
  decide_text t old f Undecided first input items is passed small none through step =
      (text_told mode input first passed.0 passed.2 small, λ some. absurd (omega (arith, some, none)), subst (λ (l : List ℕ). Through accepts limits t f l items) (sym passed.2) (through items (step limits [] None input items passed.4)))
  decide_text t old f Binary first input items is passed small none through step = cc
  decide_text t old f (Armored e) first input items is passed small none through step = cc

  -- octets of a piece pass
  pub text_passed : (old new : Text) (f h : Blocks) (input piece : List ℕ) (items found : List Item) (r : Option ℕ) → IfSome r (λ n. (0 < n) ⊎ (work_of new < work_of old))
      → ((accepts : Accepts) (limits : Limits) (input : List ℕ) (items : List Item) → Through accepts limits old f input items → Through accepts limits new h (input ++ part_of r piece) (items ++ found))
      → Passed accepts mode limits (Armored old) f (input ++ take 1 piece) input items → Passed accepts mode limits (Armored new) h (input ++ part_of r piece) (input ++ part_of r piece) (items ++ found)
  text_passed old new f h input piece items found r moves step p =
      let told = part_told mode input piece r false p.0 (moves_told mode input (work_of old) (work_of new) r p.1 moves) in
      (told, λ some. told, step accepts limits input items p.2)

  pub binary_passed : (f h : Blocks) (input piece : List ℕ) (items found : List Item) (r : Option ℕ) → IfSome r (λ n. (0 < n) × (n ≤ length piece))
      → ((accepts : Accepts) (limits : Limits) (done : List TextBlock) (label : Option Label) (given : List ℕ) (items : List Item) → Framed accepts limits f done label given items → Framed accepts limits h done label (given ++ part_of r piece) (items ++ found))
      → Passed accepts mode limits Binary f (input ++ take 1 piece) input items → Passed accepts mode limits Binary h (input ++ part_of r piece) (input ++ part_of r piece) (items ++ found)
  binary_passed f h input piece items found r moves step p =
      (part_told mode input piece r true p.0 (takes_told mode input r (length piece) moves), step accepts limits [] None input items p.1)

  -- an input without octets is binary where its mode leaves that open
  pub end_binary : (f h : Blocks) (input : List ℕ) (items : List Item) (opening : Option Opening) → is_binary mode input ≡ true → Framed accepts limits f [] None input items → Ends f h opening
      → IsEnd accepts (is_binary mode input) limits h input items (opening, Ok tt)
  end_binary f h input items opening is framed ends =
      subst (λ (b : Bool). IsEnd accepts b limits h input items (opening, Ok tt)) (sym is)
      (record { blocks = record { label = None; octets = input } ∷ []; holds = refl; label = None; octets = []; framed = ends.framed accepts limits [] None input items framed; closed = ends.begun })

  -- a binary input has no text's fault, and one block at most
  pub number_few : (f : Blocks) (input : List ℕ) (items : List Item) → Framed accepts limits f [] None input items → number_of f < 2 ^ 63
  number_few f input items framed = omega (arith, framed.numbered)

-- what is left of a piece and of what waits
behind_small : (b : Behind) → work_behind b ≤ 1
behind_small behind.Nothing = omega arith
behind_small (behind.Begin label) = omega arith
behind_small behind.End = omega arith

work_small : (f : Front) → work_in f < 2 ^ 66
work_small Undecided = omega arith
work_small Binary = omega arith
work_small (Armored t) = omega (arith, t.small, behind_small t.behind)

pub lessens : (was old new : Front) (rest : ℕ) (r : Option ℕ) → work_in old ≡ work_in was → IfSome r (λ n. Moves old new n) → IfSome r (λ n. n ≤ rest) → IfSome r (λ n. (rest - n) * 2 ^ 66 + work_in new < rest * 2 ^ 66 + work_in was)
lessens was old new rest None same moves within = tt
lessens was old new rest (Some n) same (inl some) within = omega (arith, work_small new)
lessens was old new rest (Some n) same (inr less) within = omega (arith, same, less)

pub take_first : (piece : List ℕ) → 1 ≤ length piece → take 1 piece ≡ get_or piece 0 0 ∷ []
take_first [] some = absurd (omega (arith, some))
take_first (x ∷ piece) some = refl

-- ---- a framer that has framed the same
abbrev pub FramesSo : Accepts → Limits → Blocks → Blocks → Type 0
FramesSo accepts limits f g = (done : List TextBlock) (label : Option Label) (octets : List ℕ) (items : List Item) → Framed accepts limits f done label octets items → Framed accepts limits g done label octets items

known_same : (f g : Blocks) (waiting : List ℕ) → has_begun g ≡ has_begun f → is_known g waiting ≡ is_known f waiting
known_same f g [] e = e
known_same f g (o ∷ os) e = refl

pub passed_same : (accepts : Accepts) (mode : Mode) (limits : Limits) (front : Front) (f g : Blocks) (seen input : List ℕ) (items : List Item) → FramesSo accepts limits f g → has_begun g ≡ has_begun f → Passed accepts mode limits front f seen input items → Passed accepts mode limits front g seen input items
passed_same accepts mode limits Undecided f g seen input items so begun x = (x.0, x.1, x.2, begun ∙ x.3, so [] None input items x.4)
passed_same accepts mode limits Binary f g seen input items so begun x = (x.0, so [] None input items x.1)
passed_same accepts mode limits (Armored t) f g seen input items so begun x = (
  x.0,
  x.1,
  record {
    before = x.2.before;
    fed = x.2.fed;
    framed = (x.2.framed.0, x.2.framed.1, so _ _ _ _ x.2.framed.2);
    inside = λ e. x.2.inside (sym (known_same f g (waiting_in t) begun) ∙ e);
    quiet = x.2.quiet;
    going = x.2.going;
    rule = x.2.rule;
    few = x.2.few;
  },
)

-- how many packets were found
pub passed_found : (accepts : Accepts) (mode : Mode) (limits : Limits) (front : Front) (f : Blocks) (seen input : List ℕ) (items : List Item) → Passed accepts mode limits front f seen input items → packet_count f ≡ length (placed_in items) % 2 ^ 64
passed_found accepts mode limits Undecided f seen input items x = x.4.found
passed_found accepts mode limits Binary f seen input items x = x.1.found
passed_found accepts mode limits (Armored t) f seen input items x = x.2.framed.2.found
