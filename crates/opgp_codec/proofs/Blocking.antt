-- One block more.
use Rattle.std.proofs.Common.{◌≡◌, ◌||◌, not, ℕ, ◌+◌, ◌≤◌, ◌%◌, ◌^◌, Bool, true, false, List, [], ◌∷◌, ◌++◌, length, refl, sym, ap, ◌∙◌, subst, inl, inr, Option, Some, None, is_some, map, option_to_list, arith, append_assoc, append-nil, length-append}
use Rattle.std.proofs.lemmas.List.{map-append}
use Rattle.opgp_octets.specs.declared.fault.Fault.{Fault}
use Rattle.opgp_octets.specs.declared.limits.Limits.{Limits}
use Rattle.opgp_armor.specs.declared.label.Label.{Label}
use Rattle.opgp_frame.specs.declared.deframe.Deframe.{Deframe}
use Rattle.opgp_frame.specs.declared.packet.Placed.{Placed}
use Rattle.opgp_frame.specs.Fed.{Fed, count_of, is_ready, packets_of}
use Rattle.opgp_frame.specs.Fed.{KeepsFed as KeepsFedPackets}
use Rattle.opgp_frame.specs.Frames.{Frames, IsFramingFault, Longest}
use Rattle.opgp_keyring.specs.Composition.{Item, of_label, of_packet, placed_in}
use Rattle.opgp_keyring.proofs.Feeding.{placed_in-append}
use Rattle.opgp_codec.specs.declared.accepts.Accepts.{Accepts}
use Rattle.opgp_codec.specs.declared.found.Found.{Found}
use Rattle.opgp_codec.specs.declared.found.Found.TheVariants.{Lent, Nothing, Whole}
use Rattle.opgp_codec.specs.declared.found.Opening.{Opening}
use Rattle.opgp_codec.specs.declared.blocks.Blocks.{Blocks}
use Rattle.opgp_codec.specs.Found.{IsFound, is_nothing, opened}
use Rattle.opgp_codec.specs.Accepts.{wanted_by}
use Rattle.opgp_codec.specs.Reading.{TextBlock, Wanted, AreFramed, FirstFault, block_items}
use Rattle.opgp_codec.specs.Blocks.{Finds, FindsIf, Framed, Reaches, AreLongest, AreOpen, StandsBy, StopsAt, finds, open_count}

-- what framing promises of what its reader hands out
abbrev pub HandsOutLongest : Type 0
HandsOutLongest = (limits : Limits) (block : ℕ) (d : Deframe) (given : List ℕ) (taken : List Placed) → Fed limits block d given taken → (rest : List ℕ) × Longest limits block given (packets_of d taken) rest

-- ---- lists of blocks
one_block : (limits : Limits) (wanted : Wanted) (n m : ℕ) (b : TextBlock) (packets : List Placed) (items : List Item) → m ≡ n → items ≡ [] → Frames limits m b.octets packets
    → AreFramed limits wanted n (b ∷ []) (items ++ block_items m (wanted b.label) packets)
one_block limits wanted n m b packets items e none h =
    let more : List Item = block_items m (wanted b.label) packets in
    let P : ℕ → Type 0 = λ k. AreFramed limits wanted k (b ∷ []) (items ++ more) in
    subst P e (packets, [], h, refl, ap (λ (l : List Item). l ++ more) none ∙ sym (append-nil more))

framed_push : (limits : Limits) (wanted : Wanted) (n m : ℕ) (bs : List TextBlock) (items : List Item) (b : TextBlock) (packets : List Placed) → m ≡ n + length bs → AreFramed limits wanted n bs items
    → Frames limits m b.octets packets → AreFramed limits wanted n (bs ++ b ∷ []) (items ++ block_items m (wanted b.label) packets)
framed_push limits wanted n m [] items b packets e f h = one_block limits wanted n m b packets items (omega arith) f h
framed_push limits wanted n m (a ∷ bs) items b packets e f h =
    let more : List Item = block_items m (wanted b.label) packets in (
      f.0,
      f.1 ++ more,
      f.2,
      framed_push limits wanted (n + 1) m bs f.1 b packets (omega arith) f.3 h,
      ap (λ (l : List Item). l ++ more) f.4 ∙ append_assoc (block_items n (wanted a.label) f.0) f.1 more,
    )

-- the last block has the first fault
stops_push : (limits : Limits) (wanted : Wanted) (n m : ℕ) (bs : List TextBlock) (items more : List Item) (b : TextBlock) (fault : Fault) → m ≡ n + length bs → AreFramed limits wanted n bs items
    → IsFramingFault limits m b.octets fault → AreLongest limits wanted m b more → StopsAt limits wanted n (bs ++ b ∷ []) fault (items ++ more)
stops_push limits wanted n m [] items more b fault e f h l =
    let same : m ≡ n = omega arith in
    let P : ℕ → Type 0 = λ k. IsFramingFault limits k b.octets fault × AreLongest limits wanted k b more in
    let here = subst P same (h, l) in
    inl (here.0, subst (AreLongest limits wanted n b) (sym (ap (λ (i : List Item). i ++ more) f)) here.1)
stops_push limits wanted n m (a ∷ bs) items more b fault e f h l =
    inr (
      f.0,
      f.1 ++ more,
      f.2,
      stops_push limits wanted (n + 1) m bs f.1 more b fault (omega arith) f.3 h l,
      ap (λ (i : List Item). i ++ more) f.4 ∙ append_assoc (block_items n (wanted a.label) f.0) f.1 more,
    )

stops_more : (limits : Limits) (wanted : Wanted) (n : ℕ) (bs more : List TextBlock) (fault : Fault) (items : List Item) → StopsAt limits wanted n bs fault items → StopsAt limits wanted n (bs ++ more) fault items
stops_more limits wanted n [] more fault items f = absurd f
stops_more limits wanted n (b ∷ bs) more fault items (inl h) = inl h
stops_more limits wanted n (b ∷ bs) more fault items (inr h) = inr (h.0, h.1, h.2, stops_more limits wanted (n + 1) bs more fault h.1 h.3, h.4)

first_fault : (limits : Limits) (wanted : Wanted) (n : ℕ) (bs : List TextBlock) (fault : Fault) (items : List Item) → StopsAt limits wanted n bs fault items → FirstFault limits n bs fault
first_fault limits wanted n [] fault items f = absurd f
first_fault limits wanted n (b ∷ bs) fault items (inl h) = inl h.0
first_fault limits wanted n (b ∷ bs) fault items (inr h) = inr (h.0, h.2, first_fault limits wanted (n + 1) bs fault h.1 h.3)

-- ---- how many packets were found
placed_packets : (ps : List Placed) → placed_in (map of_packet ps) ≡ ps
placed_packets [] = refl
placed_packets (p ∷ ps) = ap (λ (l : List Placed). p ∷ l) (placed_packets ps)

more_found : (n m : ℕ) (items : List Item) (ps : List Placed) → n ≡ length (placed_in items) % 2 ^ 64 → m ≡ (n + length ps) % 2 ^ 64 → m ≡ length (placed_in (items ++ map of_packet ps)) % 2 ^ 64
more_found n m items ps e f =
    let all : length (placed_in (items ++ map of_packet ps)) ≡ length (placed_in items) + length ps =
    ap length (placed_in-append items (map of_packet ps) ∙ ap (λ (l : List Placed). placed_in items ++ l) (placed_packets ps)) ∙ length-append (placed_in items) ps in
    omega (arith, e, f, all)

label_found : (n m : ℕ) (items : List Item) (number : ℕ) (fits : Bool) → n ≡ length (placed_in items) % 2 ^ 64 → m ≡ n → m ≡ length (placed_in (items ++ of_label number fits ∷ [])) % 2 ^ 64
label_found n m items number fits e f = f ∙ e ∙ ap (λ (l : List Placed). length l % 2 ^ 64) (sym (placed_in-append items (of_label number fits ∷ []) ∙ append-nil (placed_in items)))

-- ---- framers
-- what of a framer stays while its open block goes on
pub record Stays (old new : Blocks) : Type 0 where
  pub accepts : new.accepts ≡ old.accepts
  pub limits : new.limits ≡ old.limits
  pub label : new.label ≡ old.label
  pub number : new.number ≡ old.number
  pub fault : new.fault ≡ old.fault

pub none_is : (o : Option Fault) → is_some o ≡ false → o ≡ None
none_is None is = refl
none_is (Some f) is = cc

none_behind : (o : Option Placed) (taken : List Placed) → is_some o ≡ false → taken ++ option_to_list o ≡ taken
none_behind None taken e = append-nil taken
none_behind (Some p) taken e = cc

no_more_ready : (d : Deframe) (taken : List Placed) → is_ready d ≡ false → packets_of d taken ≡ taken
no_more_ready d taken free = none_behind d.ready taken free

pub nothing_found : (f : Found) (octets : List ℕ) → is_nothing f ≡ true → IsFound f octets []
nothing_found Nothing octets e = refl
nothing_found (Lent spot) octets e = cc
nothing_found (Whole p) octets e = cc

-- where nothing was found, there are no items
no_opening : (o : Option Opening) → is_some o ≡ false → opened o ≡ []
no_opening None e = refl
no_opening (Some x) e = cc

no_packet : (f : Found) (octets : List ℕ) (packets : List Placed) → is_nothing f ≡ true → IsFound f octets packets → packets ≡ []
no_packet Nothing octets packets e h = h
no_packet (Lent spot) octets packets e h = cc
no_packet (Whole p) octets packets e h = cc

neither : (a b : Bool) → not b || a ≡ false → (a ≡ false) × (b ≡ true)
neither a true e = (e, refl)
neither a false e = cc

pub finds_nothing : (f : Blocks) (octets : List ℕ) (items : List Item) → finds f ≡ false → Finds f octets items → items ≡ []
finds_nothing f octets items e h =
    let n = neither (is_some f.opening) (is_nothing f.found) e in
    h.2 ∙ ap (λ (l : List Item). l ++ map of_packet h.0) (no_opening f.opening n.0) ∙ ap (λ (l : List Placed). map of_packet l) (no_packet f.found octets h.0 n.1 h.1)

pub finds_if : (f : Blocks) (b : Bool) (octets : List ℕ) (items : List Item) → b ≡ finds f → Finds f octets items → FindsIf b f octets items
finds_if f true octets items e h = h
finds_if f false octets items e h = finds_nothing f octets items (sym e) h

pub finds_not : (f : Blocks) (b : Bool) (octets : List ℕ) (items : List Item) → b ≡ false → FindsIf b f octets items → items ≡ []
finds_not f true octets items e h = cc
finds_not f false octets items e h = h

pub finds_so : (f : Blocks) (b : Bool) (octets : List ℕ) (items : List Item) → b ≡ true → FindsIf b f octets items → Finds f octets items
finds_so f true octets items e h = h
finds_so f false octets items e h = cc

-- a push, and what is taken behind it
pub keeps_next : (d m e : Deframe) (part : List ℕ) (more : List Placed) → KeepsFedPackets d m part [] → KeepsFedPackets m e [] more → KeepsFedPackets d e part more
keeps_next d m e part more h k limits block given taken f =
    subst (λ (g : List ℕ). Fed limits block e g (taken ++ more)) (append-nil (given ++ part))
    (subst (λ (t : List Placed). Fed limits block e ((given ++ part) ++ []) (t ++ more)) (append-nil taken) (k limits block (given ++ part) (taken ++ []) (h limits block given taken f)))

module _ (accepts : Accepts) (limits : Limits) where
  abbrev W : Wanted
  W = wanted_by accepts

  -- the label of the open block is found
  open_told : (n : ℕ) (label : Option Label) (d : Deframe) (octets : List ℕ) (items : List Item) → AreOpen limits W n label d false octets items
      → AreOpen limits W n label d true octets (items ++ of_label n (W label) ∷ [])
  open_told n label d octets items (none, fresh, empty) =
      ([], subst (λ (o : List ℕ). Fed limits n d o []) (sym none) fresh, ap (λ (l : List Item). l ++ of_label n (W label) ∷ []) empty)

  reaches_told : (old new : Blocks) (done : List TextBlock) (octets : List ℕ) (items : List Item) → Stays old new → new.deframe ≡ old.deframe → old.begun ≡ false → new.begun ≡ true
      → Reaches accepts limits old done octets items → Reaches accepts limits new done octets (items ++ of_label old.number (W old.label) ∷ [])
  reaches_told old new done octets items s deframe was now r =
      let last : AreOpen limits W old.number old.label old.deframe false octets r.going = subst (λ (b : Bool). AreOpen limits W old.number old.label old.deframe b octets r.going) was r.last in
      let told = open_told old.number old.label old.deframe octets r.going last in
      let here : List Item = r.going ++ of_label old.number (W old.label) ∷ [] in
      record {
        ended = r.ended;
        going = here;
        framed = r.framed;
        last = subst (λ (b : Bool). AreOpen limits W new.number new.label new.deframe b octets here) (sym now)
            (subst (λ (d : Deframe). AreOpen limits W new.number new.label d true octets here) (sym deframe)
            (subst (λ (l : Option Label). AreOpen limits W new.number l old.deframe true octets here) (sym s.label)
            (subst (λ (n : ℕ). AreOpen limits W n old.label old.deframe true octets here) (sym s.number) told)));
        all = ap (λ (l : List Item). l ++ of_label old.number (W old.label) ∷ []) r.all ∙ append_assoc r.ended r.going (of_label old.number (W old.label) ∷ []);
      }

  -- a framer that differs only in what its last call has found
  reaches_kept : (old new : Blocks) (done : List TextBlock) (octets : List ℕ) (items : List Item) → Stays old new → new.deframe ≡ old.deframe → new.begun ≡ old.begun → Reaches accepts limits old done octets items → Reaches accepts limits new done octets items
  reaches_kept old new done octets items s deframe begun r = record {
    ended = r.ended;
    going = r.going;
    framed = r.framed;
    last = subst (λ (b : Bool). AreOpen limits W new.number new.label new.deframe b octets r.going) (sym begun)
        (subst (λ (d : Deframe). AreOpen limits W new.number new.label d old.begun octets r.going) (sym deframe)
        (subst (λ (l : Option Label). AreOpen limits W new.number l old.deframe old.begun octets r.going) (sym s.label)
        (subst (λ (n : ℕ). AreOpen limits W n old.label old.deframe old.begun octets r.going) (sym s.number) r.last)));
    all = r.all;
  }

  stands_kept : (old new : Blocks) (o : Option Fault) (done : List TextBlock) (octets : List ℕ) (items : List Item) → Stays old new → new.deframe ≡ old.deframe → new.begun ≡ old.begun → StandsBy accepts limits old o done octets items → StandsBy accepts limits new o done octets items
  stands_kept old new None done octets items s deframe begun r = reaches_kept old new done octets items s deframe begun r
  stands_kept old new (Some fault) done octets items s deframe begun r = r

  pub kept : (old new : Blocks) (done : List TextBlock) (label : Option Label) (octets : List ℕ) (items : List Item) → Stays old new → new.packets ≡ old.packets → new.deframe ≡ old.deframe → new.begun ≡ old.begun → Framed accepts limits old done label octets items → Framed accepts limits new done label octets items
  kept old new done label octets items s packets deframe begun f = record {
    found = packets ∙ f.found;
    accepts_kept = s.accepts ∙ f.accepts_kept;
    limits_kept = s.limits ∙ f.limits_kept;
    label_kept = s.label ∙ f.label_kept;
    numbered = s.number ∙ f.numbered;
    counted = subst (λ (d : Deframe). count_of d ≤ length octets) (sym deframe) f.counted;
    stands = subst (λ (o : Option Fault). StandsBy accepts limits new o done octets items) (sym s.fault) (stands_kept old new old.fault done octets items s deframe begun f.stands);
  }

  -- where there is no fault yet
  reaches_open : (f : Blocks) (o : Option Fault) (done : List TextBlock) (octets : List ℕ) (items : List Item) → o ≡ None → StandsBy accepts limits f o done octets items → Reaches accepts limits f done octets items
  reaches_open f None done octets items is s = s
  reaches_open f (Some fault) done octets items is s = cc

  reaches_at : (f : Blocks) (done : List TextBlock) (octets : List ℕ) (items : List Item) → f.fault ≡ None → Reaches accepts limits f done octets items → StandsBy accepts limits f f.fault done octets items
  reaches_at f done octets items is r = subst (λ (o : Option Fault). StandsBy accepts limits f o done octets items) (sym is) r

  told_framed : (old new : Blocks) (done : List TextBlock) (label : Option Label) (octets : List ℕ) (items : List Item) → Stays old new → new.packets ≡ old.packets → new.deframe ≡ old.deframe → old.fault ≡ None → old.begun ≡ false → new.begun ≡ true
      → Framed accepts limits old done label octets items → Framed accepts limits new done label octets (items ++ of_label old.number (W old.label) ∷ [])
  told_framed old new done label octets items s packets deframe sound was now f = record {
    found = label_found old.packets new.packets items old.number (W old.label) f.found packets;
    accepts_kept = s.accepts ∙ f.accepts_kept;
    limits_kept = s.limits ∙ f.limits_kept;
    label_kept = s.label ∙ f.label_kept;
    numbered = s.number ∙ f.numbered;
    counted = subst (λ (d : Deframe). count_of d ≤ length octets) (sym deframe) f.counted;
    stands = reaches_at new done octets (items ++ of_label old.number (W old.label) ∷ []) (s.fault ∙ sound) (reaches_told old new done octets items s deframe was now (reaches_open old old.fault done octets items sound f.stands));
  }

  pub told : (old new : Blocks) (done : List TextBlock) (label : Option Label) (octets : List ℕ) (items : List Item) (fits : Bool) → Stays old new → new.packets ≡ old.packets → new.deframe ≡ old.deframe → old.fault ≡ None → old.begun ≡ false → new.begun ≡ true → fits ≡ wanted_by old.accepts old.label
      → Framed accepts limits old done label octets items → Framed accepts limits new done label octets (items ++ of_label old.number fits ∷ [])
  told old new done label octets items fits s packets deframe sound was now same f =
      subst (λ (b : Bool). Framed accepts limits new done label octets (items ++ of_label old.number b ∷ [])) (sym (same ∙ ap (λ (a : Accepts). wanted_by a old.label) f.accepts_kept))
      (told_framed old new done label octets items s packets deframe sound was now f)

  -- the open block goes on
  reaches_more : (old new : Blocks) (done : List TextBlock) (octets piece : List ℕ) (items : List Item) (packets : List Placed) → Stays old new → old.begun ≡ true → new.begun ≡ true → KeepsFedPackets old.deframe new.deframe piece packets
      → Reaches accepts limits old done octets items → Reaches accepts limits new done (octets ++ piece) (items ++ map of_packet packets)
  reaches_more old new done octets piece items packets s was now step r =
      let last : AreOpen limits W old.number old.label old.deframe true octets r.going = subst (λ (b : Bool). AreOpen limits W old.number old.label old.deframe b octets r.going) was r.last in
      let here : List Item = r.going ++ map of_packet packets in
      let joined : here ≡ block_items old.number (W old.label) (last.0 ++ packets) =
      ap (λ (l : List Item). l ++ map of_packet packets) last.2 ∙ ap (λ (l : List Item). of_label old.number (W old.label) ∷ l) (sym (map-append of_packet last.0 packets)) in
      let more : AreOpen limits W old.number old.label new.deframe true (octets ++ piece) here = (last.0 ++ packets, step limits old.number octets last.0 last.1, joined) in
      record {
        ended = r.ended;
        going = here;
        framed = r.framed;
        last = subst (λ (b : Bool). AreOpen limits W new.number new.label new.deframe b (octets ++ piece) here) (sym now)
            (subst (λ (l : Option Label). AreOpen limits W new.number l new.deframe true (octets ++ piece) here) (sym s.label)
            (subst (λ (n : ℕ). AreOpen limits W n old.label new.deframe true (octets ++ piece) here) (sym s.number) more));
        all = ap (λ (l : List Item). l ++ map of_packet packets) r.all ∙ append_assoc r.ended r.going (map of_packet packets);
      }

  pub added : (old new : Blocks) (done : List TextBlock) (label : Option Label) (octets piece : List ℕ) (items : List Item) (packets : List Placed) → Stays old new → new.packets ≡ (old.packets + length packets) % 2 ^ 64 → old.fault ≡ None → old.begun ≡ true → new.begun ≡ true
      → KeepsFedPackets old.deframe new.deframe piece packets → open_count new ≡ open_count old + length piece
      → Framed accepts limits old done label octets items → Framed accepts limits new done label (octets ++ piece) (items ++ map of_packet packets)
  added old new done label octets piece items packets s more sound was now step count f =
      let r = reaches_open old old.fault done octets items sound f.stands in
      record {
        found = more_found old.packets new.packets items packets f.found more;
        accepts_kept = s.accepts ∙ f.accepts_kept;
        limits_kept = s.limits ∙ f.limits_kept;
        label_kept = s.label ∙ f.label_kept;
        numbered = s.number ∙ f.numbered;
        counted = omega (arith, count, f.counted, length-append octets piece);
        stands = reaches_at new done (octets ++ piece) (items ++ map of_packet packets) (s.fault ∙ sound) (reaches_more old new done octets piece items packets s was now step r);
      }

  -- behind a fault octets change nothing
  stands_passed : (old new : Blocks) (o : Option Fault) (done : List TextBlock) (octets others : List ℕ) (items : List Item) → is_some o ≡ true → StandsBy accepts limits old o done octets items → StandsBy accepts limits new o done others items
  stands_passed old new None done octets others items is s = cc
  stands_passed old new (Some fault) done octets others items is s = s

  pub passed : (old new : Blocks) (done : List TextBlock) (label : Option Label) (octets piece : List ℕ) (items : List Item) → Stays old new → new.packets ≡ old.packets → new.deframe ≡ old.deframe → is_some old.fault ≡ true → Framed accepts limits old done label octets items → Framed accepts limits new done label (octets ++ piece) items
  passed old new done label octets piece items s packets deframe is r = record {
    found = packets ∙ r.found;
    accepts_kept = s.accepts ∙ r.accepts_kept;
    limits_kept = s.limits ∙ r.limits_kept;
    label_kept = s.label ∙ r.label_kept;
    numbered = s.number ∙ r.numbered;
    counted = omega (arith, r.counted, ap count_of deframe, length-append octets piece);
    stands = subst (λ (o : Option Fault). StandsBy accepts limits new o done (octets ++ piece) items) (sym s.fault) (stands_passed old new old.fault done octets (octets ++ piece) items is r.stands);
  }

  -- ---- a block begins
  reaches_begun : (old new : Blocks) (done : List TextBlock) (octets : List ℕ) (items : List Item) → new.number ≡ old.number → old.begun ≡ false → new.begun ≡ false → Fed limits new.number new.deframe [] []
      → Reaches accepts limits old done octets items → Reaches accepts limits new done [] items
  reaches_begun old new done octets items number was now fresh r =
      let last : AreOpen limits W old.number old.label old.deframe false octets r.going = subst (λ (b : Bool). AreOpen limits W old.number old.label old.deframe b octets r.going) was r.last in
      record {
        ended = r.ended;
        going = r.going;
        framed = r.framed;
        last = subst (λ (b : Bool). AreOpen limits W new.number new.label new.deframe b [] r.going) (sym now) (refl, fresh, last.2);
        all = r.all;
      }

  stands_begun : (old new : Blocks) (done : List TextBlock) (octets : List ℕ) (items : List Item) (o : Option Fault) → new.number ≡ old.number → old.begun ≡ false → new.begun ≡ false → Fed limits new.number new.deframe [] []
      → StandsBy accepts limits old o done octets items → StandsBy accepts limits new o done [] items
  stands_begun old new done octets items None number was now fresh s = reaches_begun old new done octets items number was now fresh s
  stands_begun old new done octets items (Some f) number was now fresh s = s

  pub begun : (old new : Blocks) (done : List TextBlock) (was_label : Option Label) (label : Option Label) (octets : List ℕ) (items : List Item) → new.accepts ≡ old.accepts → new.limits ≡ old.limits → new.label ≡ label → new.number ≡ old.number → new.fault ≡ old.fault → new.packets ≡ old.packets
      → old.begun ≡ false → new.begun ≡ false → Fed old.limits new.number new.deframe [] [] → open_count new ≡ 0 → Framed accepts limits old done was_label octets items → Framed accepts limits new done label [] items
  begun old new done was_label label octets items accepts_is limits_is label_is number fault packets was now fresh count f = record {
    found = packets ∙ f.found;
    accepts_kept = accepts_is ∙ f.accepts_kept;
    limits_kept = limits_is ∙ f.limits_kept;
    label_kept = label_is;
    numbered = number ∙ f.numbered;
    counted = omega (arith, count);
    stands = subst (λ (o : Option Fault). StandsBy accepts limits new o done [] items) (sym fault)
        (stands_begun old new done octets items old.fault number was now (subst (λ (l : Limits). Fed l new.number new.deframe [] []) f.limits_kept fresh) f.stands);
  }

  -- ---- a block ends
  abbrev Block : Option Label → List ℕ → TextBlock
  Block label octets = record { label = label; octets = octets }

  -- what of a framer is there where a block has ended
  pub record Closes (old new : Blocks) : Type 0 where
    pub accepts_is : new.accepts ≡ old.accepts
    pub limits_is : new.limits ≡ old.limits
    pub label_is : new.label ≡ old.label
    pub number : new.number ≡ old.number + 1
    pub begun_is : new.begun ≡ false
    pub count : open_count new ≡ 0
    pub packets_is : new.packets ≡ old.packets

  closes_number : (n m k : ℕ) (done : List TextBlock) (b : TextBlock) → n ≡ m + 1 → m ≡ length done → n ≡ length (done ++ b ∷ [])
  closes_number n m k done b e f = omega (arith, length-append done (b ∷ []))

  stands_stopped : (old new : Blocks) (o : Option Fault) (done more : List TextBlock) (octets others : List ℕ) (items : List Item) → is_some o ≡ true → StandsBy accepts limits old o done octets items → StandsBy accepts limits new o (done ++ more) others items
  stands_stopped old new None done more octets others items is s = cc
  stands_stopped old new (Some fault) done more octets others items is s = stops_more limits W 0 done more fault items s

  -- behind a fault a block's end changes nothing
  pub closed_stopped : (old new : Blocks) (done : List TextBlock) (label : Option Label) (octets : List ℕ) (items : List Item) → Closes old new → is_some old.fault ≡ true → new.fault ≡ old.fault → Framed accepts limits old done label octets items
      → Framed accepts limits new (done ++ Block label octets ∷ []) label [] items
  closed_stopped old new done label octets items c is fault f = record {
    found = c.packets_is ∙ f.found;
    accepts_kept = c.accepts_is ∙ f.accepts_kept;
    limits_kept = c.limits_is ∙ f.limits_kept;
    label_kept = c.label_is ∙ f.label_kept;
    numbered = closes_number new.number old.number 0 done (Block label octets) c.number f.numbered;
    counted = omega (arith, c.count);
    stands = subst (λ (o : Option Fault). StandsBy accepts limits new o (done ++ Block label octets ∷ []) [] items) (sym fault)
        (stands_stopped old new old.fault done (Block label octets ∷ []) octets [] items is f.stands);
  }

  open_last : (f : Blocks) (octets : List ℕ) (items : List Item) → f.begun ≡ true → AreOpen limits W f.number f.label f.deframe f.begun octets items → AreOpen limits W f.number f.label f.deframe true octets items
  open_last f octets items is a = subst (λ (b : Bool). AreOpen limits W f.number f.label f.deframe b octets items) is a

  reaches_closed : (old new : Blocks) (done : List TextBlock) (label : Option Label) (octets : List ℕ) (items : List Item) → Closes old new → old.begun ≡ true → old.number ≡ length done → old.label ≡ label
      → ((taken : List Placed) → Fed limits old.number old.deframe octets taken → Frames limits old.number octets taken) → Fed limits new.number new.deframe [] []
      → Reaches accepts limits old done octets items → Reaches accepts limits new (done ++ Block label octets ∷ []) [] items
  reaches_closed old new done label octets items c was number_is label_is whole fresh r =
      let last = open_last old octets r.going was r.last in
      let b : TextBlock = Block label octets in
      let more : List Item = block_items old.number (W label) last.0 in
      let here : r.going ≡ more = last.2 ∙ ap (λ (l : Option Label). block_items old.number (W l) last.0) label_is in
      record {
        ended = r.ended ++ more;
        going = [];
        framed = framed_push limits W 0 old.number done r.ended b last.0 (omega (arith, number_is)) r.framed (whole last.0 last.1);
        last = subst (λ (x : Bool). AreOpen limits W new.number new.label new.deframe x [] []) (sym c.begun_is) (refl, fresh, refl);
        all = r.all ∙ ap (λ (l : List Item). r.ended ++ l) here ∙ sym (append-nil (r.ended ++ more));
      }

  -- the open block is packets
  pub closed_whole : (old new : Blocks) (done : List TextBlock) (label : Option Label) (octets : List ℕ) (items : List Item) → Closes old new → (old.fault ≡ None → old.begun ≡ true) → old.fault ≡ None → new.fault ≡ old.fault
      → ((taken : List Placed) → Fed limits old.number old.deframe octets taken → Frames limits old.number octets taken) → Fed old.limits new.number new.deframe [] []
      → Framed accepts limits old done label octets items → Framed accepts limits new (done ++ Block label octets ∷ []) label [] items
  closed_whole old new done label octets items c was sound fault whole fresh f = record {
    found = c.packets_is ∙ f.found;
    accepts_kept = c.accepts_is ∙ f.accepts_kept;
    limits_kept = c.limits_is ∙ f.limits_kept;
    label_kept = c.label_is ∙ f.label_kept;
    numbered = closes_number new.number old.number 0 done (Block label octets) c.number f.numbered;
    counted = omega (arith, c.count);
    stands = reaches_at new (done ++ Block label octets ∷ []) [] items (fault ∙ sound)
        (reaches_closed old new done label octets items c (was sound) f.numbered f.label_kept whole (subst (λ (l : Limits). Fed l new.number new.deframe [] []) f.limits_kept fresh)
        (reaches_open old old.fault done octets items sound f.stands));
  }

  -- the open block has a fault
  pub closed_faulty : (old new : Blocks) (done : List TextBlock) (label : Option Label) (octets : List ℕ) (items : List Item) (fault : Fault) → HandsOutLongest → Closes old new → (old.fault ≡ None → old.begun ≡ true) → old.fault ≡ None → new.fault ≡ Some fault
      → ((taken : List Placed) → Fed limits old.number old.deframe octets taken → IsFramingFault limits old.number octets fault)
      → Framed accepts limits old done label octets items → Framed accepts limits new (done ++ Block label octets ∷ []) label [] items
  closed_faulty old new done label octets items fault law c was sound fault_is whole f =
      let r = reaches_open old old.fault done octets items sound f.stands in
      let last = open_last old octets r.going (was sound) r.last in
      let longest = law limits old.number old.deframe octets last.0 last.1 in
      let here : Longest limits old.number octets last.0 longest.0 = subst (λ (ps : List Placed). Longest limits old.number octets ps longest.0) (no_more_ready old.deframe last.0 old.free) longest.1 in
      let more : r.going ≡ block_items old.number (W label) last.0 = last.2 ∙ ap (λ (l : Option Label). block_items old.number (W l) last.0) f.label_kept in
      record {
        found = c.packets_is ∙ f.found;
        accepts_kept = c.accepts_is ∙ f.accepts_kept;
        limits_kept = c.limits_is ∙ f.limits_kept;
        label_kept = c.label_is ∙ f.label_kept;
        numbered = closes_number new.number old.number 0 done (Block label octets) c.number f.numbered;
        counted = omega (arith, c.count);
        stands = subst (λ (o : Option Fault). StandsBy accepts limits new o (done ++ Block label octets ∷ []) [] items) (sym fault_is)
            (subst (StopsAt limits W 0 (done ++ Block label octets ∷ []) fault) (sym r.all)
            (stops_push limits W 0 old.number done r.ended r.going (Block label octets) fault (omega (arith, f.numbered)) r.framed (whole last.0 last.1) (last.0, longest.0, here, more)));
      }

  -- ---- the end
  stands_end : (f : Blocks) (o : Option Fault) (done : List TextBlock) (octets : List ℕ) (items : List Item) → f.begun ≡ false → o ≡ None → StandsBy accepts limits f o done octets items → AreFramed limits W 0 done items
  stands_end f None done octets items was none r =
      let last : AreOpen limits W f.number f.label f.deframe false octets r.going = subst (λ (b : Bool). AreOpen limits W f.number f.label f.deframe b octets r.going) was r.last in
      subst (AreFramed limits W 0 done) (sym (r.all ∙ ap (λ (l : List Item). r.ended ++ l) last.2 ∙ append-nil r.ended)) r.framed
  stands_end f (Some fault) done octets items was none r = cc

  pub end_whole : (f : Blocks) (done : List TextBlock) (label : Option Label) (octets : List ℕ) (items : List Item) → f.begun ≡ false → f.fault ≡ None → Framed accepts limits f done label octets items → AreFramed limits W 0 done items
  end_whole f done label octets items was none r = stands_end f f.fault done octets items was none r.stands

  stands_faulty : (f : Blocks) (o : Option Fault) (fault : Fault) (done : List TextBlock) (octets : List ℕ) (items : List Item) → o ≡ Some fault → StandsBy accepts limits f o done octets items → FirstFault limits 0 done fault
  stands_faulty f None fault done octets items e r = cc
  stands_faulty f (Some g) fault done octets items e r = let same : g ≡ fault = cc in subst (FirstFault limits 0 done) same (first_fault limits W 0 done g items r)

  pub end_faulty : (f : Blocks) (done : List TextBlock) (label : Option Label) (octets : List ℕ) (items : List Item) (fault : Fault) → f.fault ≡ Some fault → Framed accepts limits f done label octets items → FirstFault limits 0 done fault
  end_faulty f done label octets items fault e r = stands_faulty f f.fault fault done octets items e r.stands
