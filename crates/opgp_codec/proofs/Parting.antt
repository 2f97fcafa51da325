-- The parts that labels and packets complete, step by step.
use Rattle.std.proofs.Common.{◌≡◌, ◌+◌, ◌-◌, ◌≤◌, ◌++◌, ℕ, List, [], length, map, take, drop, refl, sym, ap, subst, ◌∙◌, append_assoc, append-nil, Option, Some, None, Ok, Err, is_some, false, arith, MatchResult}
use Rattle.std.proofs.Math.Seq.{take-add}
use Rattle.std.proofs.lemmas.List.{take-append-drop, take_rest}
use Rattle.opgp_octets.specs.declared.limits.Limits.{Limits}
use Rattle.opgp_frame.specs.declared.packet.Placed.{Placed}
use Rattle.opgp_keyring.specs.Composed.{PartValue}
use Rattle.opgp_keyring.specs.Composition.{Item, of_packet}
use Rattle.opgp_keyring.specs.Fed.{Fed as IsComposed}
use Rattle.opgp_keyring.specs.Fed.{KeepsFed}
use Rattle.opgp_keyring.specs.declared.composer.Composer.{Composer}
use Rattle.opgp_codec.specs.declared.accepts.Accepts.TheVariants.{Keys}
use Rattle.opgp_codec.specs.declared.found.Opening.{Opening}
use Rattle.opgp_codec.specs.declared.items.Items.{Items}
use Rattle.opgp_codec.specs.declared.mode.Mode.{Mode}
use Rattle.opgp_codec.specs.Found.{opened}
use Rattle.opgp_codec.specs.Items.{Fed}
use Rattle.opgp_armor.specs.declared.reader.Dearmor.{Dearmor}
use Rattle.opgp_armor.specs.Rules.{LineRule}
use Rattle.opgp_armor.specs.Fed.{held_of as text_held, line_limit_of}
use Rattle.opgp_frame.specs.declared.deframe.Deframe.{Deframe}
use Rattle.opgp_frame.specs.Fed.{held_of as packet_held, limits_of}
use Rattle.opgp_octets.specs.Limits.{body_limit, cert_limit, line_limit, pieces_limit}
use Rattle.opgp_keyring.specs.Composed.{IsFault, IsKeyringOf, parts_of}
use Rattle.opgp_keyring.specs.Fed.{held_of as part_held, is_ready}
use Rattle.opgp_keyring.proofs.Holding.{none_spare}
use Rattle.opgp_keyring.specs.Keyring.{KeyringValue}
use Rattle.opgp_keyring.specs.State.{ready_octets, ready_parts}
use Rattle.opgp_keyring.specs.declared.ready.Ready.{Ready}
use Rattle.opgp_codec.specs.declared.blocks.Blocks.{Blocks}
use Rattle.opgp_codec.specs.declared.items.Front.{Front}
use Rattle.opgp_codec.specs.declared.items.Front.TheVariants.{Undecided, Binary, Armored}
use Rattle.opgp_codec.specs.Items.{IsRest, Passed}
use Rattle.opgp_codec.specs.Keyrings.{ComposesTo, key_label}
use Rattle.opgp_codec.specs.Parts.{Ends, Use, front_held, given, most_held, taking}
use Rattle.opgp_codec.specs.Reading.{AnswerOf, Outcome}
use Rattle.opgp_codec.proofs.Concluding.{answer_top}
use Rattle.opgp_codec.proofs.Ends.{HasNoMoreOctets}
use Rattle.opgp_codec.proofs.Stepping.{Steps}

-- a reader and a composer were used so
abbrev pub AreUsed : Use → Items → Composer → Type 0
AreUsed u a x = (items : List Item) × Fed Keys u.mode u.limits a u.input items × IsComposed u.limits x items u.taken

composed_then : (x y z : Composer) (first second : List Item) (a b : List PartValue) → KeepsFed x y first a → KeepsFed y z second b → KeepsFed x z (first ++ second) (a ++ b)
composed_then x y z first second a b h k limits given taken f =
    subst (λ (g : List Item). IsComposed limits z g (taken ++ (a ++ b))) (append_assoc given first second)
    (subst (IsComposed limits z ((given ++ first) ++ second)) (append_assoc taken a b) (k limits (given ++ first) (taken ++ a) (h limits given taken f)))

-- what was found is composed, and parts of it are taken
pub composed_found : (x y z w : Composer) (found : List Item) (told opening : Option Opening) (viewed packets : List Placed) (parts : List PartValue) → told ≡ opening → viewed ≡ packets → found ≡ opened opening ++ map of_packet packets
    → KeepsFed x y (opened told) [] → KeepsFed y z (map of_packet viewed) [] → KeepsFed z w [] parts → KeepsFed x w found parts
composed_found x y z w found told opening viewed packets parts e f g h i j =
    let whole : opened told ++ (map of_packet viewed ++ []) ≡ found =
    ap (λ (l : List Item). opened told ++ l) (append-nil (map of_packet viewed)) ∙ ap (λ (o : Option Opening). opened o ++ map of_packet viewed) e ∙ ap (λ (l : List Placed). opened opening ++ map of_packet l) f ∙ sym g in
    subst (λ (l : List Item). KeepsFed x w l parts) whole
    (composed_then x y w (opened told) (map of_packet viewed ++ []) [] parts h (composed_then y z w (map of_packet viewed) [] [] parts i j))

-- octets of the rest of a piece, and what they complete
pub used_more : (u : Use) (b c : Items) (y w : Composer) (piece : List ℕ) (at n : ℕ) (found : List Item) (parts : List PartValue) → Steps b c (take n (take (length piece - at) (drop at piece))) found → KeepsFed y w found parts
    → AreUsed (given u (take at piece)) b y → AreUsed (taking (given u (take (at + n) piece)) parts) c w
used_more u b c y w piece at n found parts step composed r =
    let next = step Keys u.mode u.limits (u.input ++ take at piece) r.0 r.1 in
    (r.0 ++ found, rw (take-add at n piece, ← append_assoc) (rw (take_rest piece at) at next), composed u.limits r.0 u.taken r.2)

-- all the rest, which completes nothing
pub used_all : (u : Use) (b c : Items) (y : Composer) (piece : List ℕ) (at : ℕ) (found : List Item) → found ≡ [] → Steps b c (take (length piece - at) (drop at piece)) found → AreUsed (given u (take at piece)) b y → AreUsed (given u piece) c y
used_all u b c y piece at found none step r =
    let next = step Keys u.mode u.limits (u.input ++ take at piece) r.0 r.1 in
    let same : r.0 ++ found ≡ r.0 = ap (λ (l : List Item). r.0 ++ l) none ∙ append-nil r.0 in
    let whole : (u.input ++ take at piece) ++ take (length piece - at) (drop at piece) ≡ u.input ++ piece =
    append_assoc u.input (take at piece) (take (length piece - at) (drop at piece)) ∙ ap (λ (l : List ℕ). u.input ++ (take at piece ++ l)) (take_rest piece at) ∙ ap (λ (l : List ℕ). u.input ++ l) (take-append-drop at piece) in
    (r.0, subst (λ (i : List ℕ). Fed Keys u.mode u.limits c i r.0) whole (subst (Fed Keys u.mode u.limits c _) same next), r.2)

-- no part is taken
pub taking_none : (u : Use) (c : Items) (w : Composer) → AreUsed (taking u []) c w → AreUsed u c w
taking_none u c w r = (r.0, r.1, subst (IsComposed u.limits w r.0) (append-nil u.taken) r.2)

pub none_taking : (u : Use) (c : Items) (w : Composer) → AreUsed u c w → AreUsed (taking u []) c w
none_taking u c w r = (r.0, r.1, subst (IsComposed u.limits w r.0) (sym (append-nil u.taken)) r.2)

-- ---- what they hold
text_short : (d : Dearmor) → text_held d ≤ line_limit_of d + 16
text_short d = d.bounded

packet_short : (d : Deframe) → packet_held d ≤ body_limit (limits_of d) + pieces_limit (limits_of d) + 16
packet_short d = d.held

none_ready : (o : Option Ready) → is_some o ≡ false → ready_octets o ≡ 0
none_ready None is = refl
none_ready (Some r) is = cc

part_short : (c : Composer) → is_ready c ≡ false → part_held c ≤ cert_limit c.limits
part_short c free =
    let none : ready_octets c.ready ≡ 0 = none_ready c.ready free in
    omega (arith, none, none_spare c, c.counted, c.short)

front_short : (mode : Mode) (limits : Limits) (front : Front) (f : Blocks) (seen input : List ℕ) (items : List Item) → Passed Keys mode limits front f seen input items → (f.limits ≡ limits) × (front_held front ≤ line_limit limits + 16)
front_short mode limits Undecided f seen input items x = (x.4.limits_kept, omega arith)
front_short mode limits Binary f seen input items x = (x.1.limits_kept, omega arith)
front_short mode limits (Armored t) f seen input items x = (x.2.framed.2.limits_kept, omega (arith, text_short t.dearmor, ap (λ (r : LineRule). r.most) x.2.rule))

pub held_within : (u : Use) (a : Items) (x : Composer) → is_ready x ≡ false → AreUsed u a x → front_held a.front + packet_held a.framer.deframe + part_held x ≤ most_held u.limits
held_within u a x free used =
    let d = a.framer.deframe in
    let front = front_short u.mode u.limits a.front a.framer u.input u.input used.0 used.1.passed in
    let framed : limits_of d ≡ u.limits = a.framer.within ∙ front.0 in
    let packet : packet_held d ≤ body_limit u.limits + pieces_limit u.limits + 16 = subst (λ (l : Limits). packet_held d ≤ body_limit l + pieces_limit l + 16) framed (packet_short d) in
    let part : part_held x ≤ cert_limit u.limits = subst (λ (l : Limits). part_held x ≤ cert_limit l) used.2.limits_kept (part_short x free) in
    omega (arith, front.1, packet, part)

-- ---- the end
pub ends_of : (u : Use) (opening : Option Opening) (w : Composer) (result : Outcome (Option Ready)) (items : List Item) → HasNoMoreOctets → AnswerOf key_label (IsRest items) u.mode u.limits u.input (Ok opening)
    → MatchResult result (λ last. (r : KeyringValue) × IsKeyringOf u.limits (items ++ opened opening) r × (parts_of r ≡ u.taken ++ ready_parts last)) (IsFault u.limits (items ++ opened opening)) → Ends u result
ends_of u opening w (Ok last) items law h r = (r.0, answer_top key_label (ComposesTo u.limits) u.mode u.limits u.input items opening (Ok r.0) law (λ read. r.1) h, r.2)
ends_of u opening w (Err fault) items law h r = answer_top {A = KeyringValue} key_label (ComposesTo u.limits) u.mode u.limits u.input items opening (Err fault) law (λ read. r) h
