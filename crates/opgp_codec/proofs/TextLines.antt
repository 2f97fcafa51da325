-- Armored text, event by event.
use Rattle.std.proofs.Common.{◌≡◌, ℕ, ◌+◌, ◌<◌, ◌≤◌, ◌^◌, Bool, true, false, List, [], ◌∷◌, ◌++◌, length, refl, sym, ap, ◌∙◌, subst, Option, Some, None, is_some, Ok, Err, Result, map, drop, arith, length-append, append-nil, append_assoc}
use Rattle.std.proofs.lemmas.List.{drop-append-le, map-append}
use Rattle.std.proofs.lemmas.List.Sums.{fold-append}
use Rattle.std.specs.Result.{MatchResult, OnOk}
use Rattle.opgp_octets.specs.declared.fault.Fault.{Fault}
use Rattle.opgp_octets.specs.declared.limits.Limits.{Limits}
use Rattle.opgp_armor.specs.declared.event.ArmorEvent.{ArmorEvent}
use Rattle.opgp_armor.specs.declared.event.ArmorEvent.TheVariants as armor
use Rattle.opgp_armor.specs.declared.label.Label.{Label}
use Rattle.opgp_armor.specs.declared.label.Label.TheVariants.{Message}
use Rattle.opgp_armor.specs.declared.reader.Dearmor.{Dearmor}
use Rattle.opgp_armor.specs.Armored.{Armored, Block, IsArmorFault}
use Rattle.opgp_armor.specs.Events.{AreInOrder, Event, Begin, Header, Octets, End, Built, absorb, built, event_octets, events_of, is_open_behind, open_block}
use Rattle.opgp_armor.specs.Rules.{LineRule, line_rule}
use Rattle.opgp_armor.specs.Fed.{Fed, KeepsFed, events_so_far, is_ready, has_ended, count_of, rule_of}
use Rattle.opgp_keyring.specs.Composition.{Item}
use Rattle.opgp_codec.specs.declared.accepts.Accepts.{Accepts}
use Rattle.opgp_codec.specs.declared.found.Opening.{Opening}
use Rattle.opgp_codec.specs.declared.blocks.Blocks.{Blocks}
use Rattle.opgp_codec.specs.declared.text.Behind.{Behind}
use Rattle.opgp_codec.specs.declared.text.Behind.TheVariants as behind
use Rattle.opgp_codec.specs.declared.text.Text.{Text}
use Rattle.opgp_codec.specs.Found.{opened}
use Rattle.opgp_codec.specs.Reading.{TextBlock, armored_block}
use Rattle.opgp_codec.specs.Blocks.{Ends, Framed, open_count, number_of, has_begun}
use Rattle.opgp_codec.specs.Text.{FramesBut, IsEnd, Through, Waits, events_behind, is_known, waiting_in}

-- what the reader of armor promises
abbrev pub HandsOutNoMore : Type 0
HandsOutNoMore = (d : Dearmor) (given : List ℕ) (taken more : List Event) → Fed d given (taken ++ more) → length (built taken).octets + event_octets more ≤ length given

abbrev pub HasNoMoreBlocks : Type 0
HasNoMoreBlocks = (d : Dearmor) (given : List ℕ) (taken : List Event) → Fed d given taken → length (built taken).blocks ≤ length given

abbrev pub KeepsOrder : Type 0
KeepsOrder = (d : Dearmor) (given : List ℕ) (taken : List Event) → Fed d given taken → AreInOrder false (events_so_far d taken)

-- ---- the order of events
-- events behind others are in order where these leave off
order_behind : (inside : Bool) (es fs : List Event) → AreInOrder inside (es ++ fs) → AreInOrder (is_open_behind inside es) fs
order_behind inside [] fs o = o
order_behind false (Begin l ∷ es) fs o = order_behind true es fs o
order_behind false (Header key value ∷ es) fs o = absurd o
order_behind false (Octets x ∷ es) fs o = absurd o
order_behind false (End ∷ es) fs o = absurd o
order_behind true (Begin l ∷ es) fs o = absurd o
order_behind true (Header key value ∷ es) fs o = order_behind true es fs o
order_behind true (Octets x ∷ es) fs o = order_behind true es fs o
order_behind true (End ∷ es) fs o = order_behind false es fs o

inside-append : (inside : Bool) (es fs : List Event) → is_open_behind inside (es ++ fs) ≡ is_open_behind (is_open_behind inside es) fs
inside-append inside [] fs = refl
inside-append inside (Begin l ∷ es) fs = inside-append true es fs
inside-append inside (Header key value ∷ es) fs = inside-append inside es fs
inside-append inside (Octets o ∷ es) fs = inside-append inside es fs
inside-append inside (End ∷ es) fs = inside-append false es fs

none_of : (o : Option ArmorEvent) (taken : List Event) → is_some o ≡ false → taken ++ events_of o ≡ taken
none_of None taken e = append-nil taken
none_of (Some x) taken e = cc

-- nothing is ready
none_ready : (d : Dearmor) (taken : List Event) → is_ready d ≡ false → events_so_far d taken ≡ taken
none_ready d taken quiet = none_of d.ready taken quiet

not_both : (b : Bool) → b ≡ true → b ≡ false → ⊥
not_both b t f = cc

false_of : (b : Bool) → (b ≡ true → ⊥) → b ≡ false
false_of true h = absurd (h refl)
false_of false h = refl

-- octets come in a block, and a block begins behind one
octets_inside : (inside : Bool) (o : List ℕ) → AreInOrder inside (Octets o ∷ []) → inside ≡ true
octets_inside false o order = absurd order
octets_inside true o order = refl

begins_outside : (inside : Bool) (l : Label) → AreInOrder inside (Begin l ∷ []) → inside ≡ false
begins_outside false l order = refl
begins_outside true l order = absurd order

-- the events that were taken, and more, in order
order_next : (d : Dearmor) (given : List ℕ) (taken more : List Event) → KeepsOrder → Fed d given (taken ++ more) → is_ready d ≡ false → AreInOrder (is_open_behind false taken) more
order_next d given taken more law fed quiet =
    let P : List Event → Type 0 = λ l. AreInOrder false l in
    order_behind false taken more (subst P (none_ready d (taken ++ more) quiet) (law d given (taken ++ more) fed))

mapped_length : (bs : List Block) → length (map armored_block bs) ≡ length bs
mapped_length [] = refl
mapped_length (b ∷ bs) = omega (arith, mapped_length bs)

pub on_ok : (r : Result Unit Fault) (P : Type 0) → OnOk r P → r ≡ Ok tt → P
on_ok (Ok u) P h e = h
on_ok (Err f) P h e = cc

pub fed_end : (d : Dearmor) (given : List ℕ) (taken : List Event) → Fed d (given ++ []) taken → Fed d given taken
fed_end d given taken f = subst (λ (g : List ℕ). Fed d g taken) (append-nil given) f

-- a push, and what is taken behind it
pub taken_next : (d m e : Dearmor) (given part : List ℕ) (taken more : List Event) → KeepsFed d m part [] → KeepsFed m e [] more → Fed d given taken → Fed e (given ++ part) (taken ++ more)
taken_next d m e given part taken more h k f =
    subst (λ (g : List ℕ). Fed e g (taken ++ more)) (append-nil (given ++ part))
    (subst (λ (t : List Event). Fed e ((given ++ part) ++ []) (t ++ more)) (append-nil taken) (k (given ++ part) (taken ++ []) (h given taken f)))

-- one event more
built_next : (taken : List Event) (e : Event) → built (taken ++ e ∷ []) ≡ absorb (built taken) e
unfolding built
built_next taken e = fold-append absorb _ taken (e ∷ [])

known_some : (f : Blocks) (waiting : List ℕ) → 0 < length waiting → is_known f waiting ≡ true
known_some f [] some = absurd (omega arith)
known_some f (o ∷ os) some = refl

-- what comes behind ends no block that was there
blocks_more : (taken : List Event) (b : Behind) → length (built taken).blocks ≤ length (built (taken ++ events_behind b)).blocks
blocks_more taken behind.Nothing = omega (arith, ap (λ (l : List Event). length (built l).blocks) (append-nil taken))
blocks_more taken (behind.Begin label) = omega (arith, ap (λ (b : Built). length b.blocks) (built_next taken (Begin label)))
blocks_more taken behind.End = omega (arith, ap (λ (b : Built). length b.blocks) (built_next taken End), length-append (built taken).blocks (open_block (built taken) ∷ []))

module _ (accepts : Accepts) (limits : Limits) where
  -- ---- the beginning
  pub through_none : (t : Text) (f : Blocks) (items : List Item) → t.behind ≡ behind.Nothing → waiting_in t ≡ [] → Fed t.dearmor [] [] → is_ready t.dearmor ≡ false → has_ended t.dearmor ≡ false → rule_of t.dearmor ≡ line_rule limits
      → count_of t.dearmor ≡ 0 → has_begun f ≡ false → Framed accepts limits f [] (Some Message) [] items → Through accepts limits t f [] items
  unfolding built
  through_none t f items none empty fed quiet going rule count begun framed = record {
    before = [];
    fed = subst (λ (b : Behind). Fed t.dearmor [] (events_behind b)) (sym none) fed;
    framed = subst (λ (w : List ℕ). FramesBut accepts limits f w (built []) items) (sym empty) ([], refl, framed);
    inside = λ is. let known : is_known f [] ≡ true = subst (λ (w : List ℕ). is_known f w ≡ true) empty is in absurd (not_both (has_begun f) known begun);
    quiet = quiet;
    going = going;
    rule = rule;
    few = omega (arith, count);
  }

  -- ---- octets that wait
  -- there is room for them
  pub room_for : (t : Text) (f : Blocks) (input : List ℕ) (items : List Item) → HandsOutNoMore → Through accepts limits t f input items → open_count f + length (waiting_in t) < 2 ^ 63
  room_for t f input items law x =
      let b = built x.before in
      let joined : length b.octets ≡ length x.framed.0 + length (waiting_in t) = ap length x.framed.1 ∙ length-append x.framed.0 (waiting_in t) in
      omega (arith, law t.dearmor input x.before (events_behind t.behind) x.fed, joined, x.framed.2.counted, x.fed.count, x.few)

  -- some of them are framed
  pub through_framed : (old new : Text) (f h : Blocks) (input part : List ℕ) (items found : List Item) → new.dearmor ≡ old.dearmor → new.behind ≡ old.behind → 0 < length (waiting_in old) → waiting_in old ≡ part ++ waiting_in new
      → ((done : List TextBlock) (label : Option Label) (given : List ℕ) (all : List Item) → Framed accepts limits f done label given all → Framed accepts limits h done label (given ++ part) (all ++ found))
      → Through accepts limits old f input items → Through accepts limits new h input (items ++ found)
  through_framed old new f h input part items found reader behind some cut step x = record {
    before = x.before;
    fed = subst (λ (d : Dearmor). Fed d input (x.before ++ events_behind new.behind)) (sym reader) (subst (λ (b : Behind). Fed old.dearmor input (x.before ++ events_behind b)) (sym behind) x.fed);
    framed = (
      x.framed.0 ++ part,
      x.framed.1 ∙ ap (λ (w : List ℕ). x.framed.0 ++ w) cut ∙ sym (append_assoc x.framed.0 part (waiting_in new)),
      step _ _ x.framed.0 items x.framed.2,
    );
    inside = λ is. x.inside (known_some f (waiting_in old) some);
    quiet = ap is_ready reader ∙ x.quiet;
    going = ap has_ended reader ∙ x.going;
    rule = ap rule_of reader ∙ x.rule;
    few = subst (λ (d : Dearmor). count_of d < 2 ^ 63) (sym reader) x.few;
  }

  -- ---- what is behind them
  -- there are few blocks
  pub few_blocks : (t : Text) (f : Blocks) (input : List ℕ) (items : List Item) → HasNoMoreBlocks → Through accepts limits t f input items → number_of f < 2 ^ 63
  few_blocks t f input items law x =
      let more = law t.dearmor input (x.before ++ events_behind t.behind) x.fed in
      omega (arith, blocks_more x.before t.behind, more, x.framed.2.numbered, mapped_length (built x.before).blocks, x.fed.count, x.few)

  -- no label of an open block is found where a block begins
  pub not_begun : (t : Text) (f : Blocks) (input : List ℕ) (items : List Item) (label : Label) → KeepsOrder → t.behind ≡ behind.Begin label → waiting_in t ≡ [] → Through accepts limits t f input items → has_begun f ≡ false
  not_begun t f input items label law is empty x =
      let fed = subst (λ (b : Behind). Fed t.dearmor input (x.before ++ events_behind b)) is x.fed in
      let outside = begins_outside (is_open_behind false x.before) label (order_next t.dearmor input x.before (Begin label ∷ []) law fed x.quiet) in
      false_of (has_begun f) (λ begun. not_both (is_open_behind false x.before) (x.inside (subst (λ (w : List ℕ). is_known f w ≡ true) (sym empty) begun)) outside)

  -- a block begins or ends
  pub through_passed : (old new : Text) (f h : Blocks) (input : List ℕ) (items found : List Item) (e : Event) → new.dearmor ≡ old.dearmor → events_behind old.behind ≡ e ∷ [] → new.behind ≡ behind.Nothing → waiting_in old ≡ [] → waiting_in new ≡ [] → has_begun h ≡ false
      → ((b : Built) → Framed accepts limits f (map armored_block b.blocks) (Some b.label) b.octets items → Framed accepts limits h (map armored_block (absorb b e).blocks) (Some (absorb b e).label) (absorb b e).octets (items ++ found))
      → Through accepts limits old f input items → Through accepts limits new h input (items ++ found)
  through_passed old new f h input items found e reader was now empty still begun step x =
      let all : (built x.before).octets ≡ x.framed.0 = x.framed.1 ∙ ap (λ (w : List ℕ). x.framed.0 ++ w) empty ∙ append-nil x.framed.0 in
      let framed : Framed accepts limits f (map armored_block (built x.before).blocks) (Some (built x.before).label) (built x.before).octets items =
      subst (λ (o : List ℕ). Framed accepts limits f (map armored_block (built x.before).blocks) (Some (built x.before).label) o items) (sym all) x.framed.2 in
      let next : FramesBut accepts limits h [] (absorb (built x.before) e) (items ++ found) = ((absorb (built x.before) e).octets, sym (append-nil (absorb (built x.before) e).octets), step (built x.before) framed) in
      record {
        before = x.before ++ e ∷ [];
        fed = subst (λ (d : Dearmor). Fed d input ((x.before ++ e ∷ []) ++ events_behind new.behind)) (sym reader)
            (subst (λ (b : Behind). Fed old.dearmor input ((x.before ++ e ∷ []) ++ events_behind b)) (sym now)
            (subst (Fed old.dearmor input) (ap (λ (l : List Event). x.before ++ l) was ∙ sym (append-nil (x.before ++ e ∷ []))) x.fed));
        framed = subst (λ (w : List ℕ). FramesBut accepts limits h w (built (x.before ++ e ∷ [])) (items ++ found)) (sym still)
            (subst (λ (b : Built). FramesBut accepts limits h [] b (items ++ found)) (sym (built_next x.before e)) next);
        inside = λ is. absurd (not_both (has_begun h) (subst (λ (w : List ℕ). is_known h w ≡ true) still is) begun);
        quiet = ap is_ready reader ∙ x.quiet;
        going = ap has_ended reader ∙ x.going;
        rule = ap rule_of reader ∙ x.rule;
        few = subst (λ (d : Dearmor). count_of d < 2 ^ 63) (sym reader) x.few;
      }

  -- ---- one line more
  -- what is known of the reader behind a line
  pub record Reads (d : Dearmor) : Type 0 where
    pub quiet : is_ready d ≡ false
    pub going : has_ended d ≡ false
    pub rule : rule_of d ≡ line_rule limits
    pub few : count_of d < 2 ^ 63

  line_through : (new : Text) (f : Blocks) (given : List ℕ) (items : List Item) (before : List Event) → Reads new.dearmor → Fed new.dearmor given (before ++ events_behind new.behind) → FramesBut accepts limits f (waiting_in new) (built before) items
      → (is_known f (waiting_in new) ≡ true → is_open_behind false before ≡ true) → Through accepts limits new f given items
  line_through new f given items before r fed framed inside = record { before = before; fed = fed; framed = framed; inside = inside; quiet = r.quiet; going = r.going; rule = r.rule; few = r.few }

  -- the octets that wait, where none are added
  same_waiting : (old new : Text) → new.octets.items ≡ old.octets.items → new.at ≡ old.at → waiting_in new ≡ waiting_in old
  same_waiting old new octets at = ap (λ (n : ℕ). drop n new.octets.items) at ∙ ap (λ (l : List ℕ). drop old.at l) octets

  more_waiting : (old new : Text) (more : List ℕ) → new.octets.items ≡ old.octets.items ++ more → new.at ≡ old.at → waiting_in new ≡ waiting_in old ++ more
  more_waiting old new more octets at =
      ap (λ (n : ℕ). drop n new.octets.items) at ∙ ap (λ (l : List ℕ). drop old.at l) octets ∙ drop-append-le old.at old.octets.items more old.within

  same_line : (old new : Text) (f : Blocks) (given : List ℕ) (items : List Item) (taken : List Event) → Reads new.dearmor → new.octets.items ≡ old.octets.items → new.at ≡ old.at → Fed new.dearmor given (taken ++ events_behind new.behind)
      → FramesBut accepts limits f (waiting_in old) (built taken) items → (is_known f (waiting_in old) ≡ true → is_open_behind false taken ≡ true) → Through accepts limits new f given items
  same_line old new f given items taken r octets at fed framed inside =
      let same = sym (same_waiting old new octets at) in
      line_through new f given items taken r fed (subst (λ (w : List ℕ). FramesBut accepts limits f w (built taken) items) same framed)
      (subst (λ (w : List ℕ). is_known f w ≡ true → is_open_behind false taken ≡ true) same inside)

  pub kept_line : (old new : Text) (f : Blocks) (given : List ℕ) (items : List Item) (e : Option ArmorEvent) (taken : List Event) → KeepsOrder → Reads new.dearmor → Waits old.octets.items new (events_of e) → new.at ≡ old.at
      → Fed new.dearmor given (taken ++ events_of e) → FramesBut accepts limits f (waiting_in old) (built taken) items → (is_known f (waiting_in old) ≡ true → is_open_behind false taken ≡ true) → Through accepts limits new f given items
  kept_line old new f given items None taken law r waits at fed framed inside =
      same_line old new f given items taken r waits.0 at (subst (λ (b : Behind). Fed new.dearmor given (taken ++ events_behind b)) (sym waits.1) fed) framed inside
  kept_line old new f given items (Some (armor.Begin label)) taken law r waits at fed framed inside =
      same_line old new f given items taken r waits.0 at (subst (λ (b : Behind). Fed new.dearmor given (taken ++ events_behind b)) (sym waits.1) fed) framed inside
  kept_line old new f given items (Some armor.End) taken law r waits at fed framed inside =
      same_line old new f given items taken r waits.0 at (subst (λ (b : Behind). Fed new.dearmor given (taken ++ events_behind b)) (sym waits.1) fed) framed inside
  kept_line old new f given items (Some (armor.Header key value)) taken law r waits at fed framed inside =
      let e : Event = Header key.items value.items in
      same_line old new f given items (taken ++ e ∷ []) r waits.0 at
      (subst (λ (b : Behind). Fed new.dearmor given ((taken ++ e ∷ []) ++ events_behind b)) (sym waits.1) (subst (Fed new.dearmor given) (sym (append-nil (taken ++ e ∷ []))) fed))
      (subst (λ (b : Built). FramesBut accepts limits f (waiting_in old) b items) (sym (built_next taken e)) framed)
      (λ is. inside-append false taken (e ∷ []) ∙ inside is)
  kept_line old new f given items (Some (armor.Octets octets)) taken law r waits at fed framed inside =
      let e : Event = Octets octets.items in
      let more = sym (more_waiting old new octets.items waits.0 at) in
      let next : FramesBut accepts limits f (waiting_in old ++ octets.items) (absorb (built taken) e) items =
      (framed.0, ap (λ (l : List ℕ). l ++ octets.items) framed.1 ∙ append_assoc framed.0 (waiting_in old) octets.items, framed.2) in
      line_through new f given items (taken ++ e ∷ []) r
      (subst (λ (b : Behind). Fed new.dearmor given ((taken ++ e ∷ []) ++ events_behind b)) (sym waits.1) (subst (Fed new.dearmor given) (sym (append-nil (taken ++ e ∷ []))) fed))
      (subst (λ (w : List ℕ). FramesBut accepts limits f w (built (taken ++ e ∷ [])) items) more (subst (λ (b : Built). FramesBut accepts limits f (waiting_in old ++ octets.items) b items) (sym (built_next taken e)) next))
      (λ is. inside-append false taken (e ∷ []) ∙ octets_inside (is_open_behind false taken) octets.items (order_next new.dearmor given taken (e ∷ []) law fed r.quiet))

  -- nothing waits, in another vector
  pub through_cleared : (old new : Text) (f : Blocks) (input : List ℕ) (items : List Item) → new.dearmor ≡ old.dearmor → new.behind ≡ old.behind → waiting_in old ≡ [] → waiting_in new ≡ [] → Through accepts limits old f input items → Through accepts limits new f input items
  through_cleared old new f input items reader behind was now x = record {
    before = x.before;
    fed = subst (λ (d : Dearmor). Fed d input (x.before ++ events_behind new.behind)) (sym reader) (subst (λ (b : Behind). Fed old.dearmor input (x.before ++ events_behind b)) (sym behind) x.fed);
    framed = subst (λ (w : List ℕ). FramesBut accepts limits f w (built x.before) items) (was ∙ sym now) x.framed;
    inside = subst (λ (w : List ℕ). is_known f w ≡ true → is_open_behind false x.before ≡ true) (was ∙ sym now) x.inside;
    quiet = ap is_ready reader ∙ x.quiet;
    going = ap has_ended reader ∙ x.going;
    rule = ap rule_of reader ∙ x.rule;
    few = subst (λ (d : Dearmor). count_of d < 2 ^ 63) (sym reader) x.few;
  }

  -- ---- the end
  -- the last event was taken
  pub taken_last : (t : Text) (f : Blocks) (d : Dearmor) (input : List ℕ) (items : List Item) (e : Option ArmorEvent) (x : Through accepts limits t f input items) → t.behind ≡ behind.Nothing → KeepsFed t.dearmor d [] (events_of e) → Fed d input (x.before ++ events_of e)
  taken_last t f d input items e x none step =
      fed_end d input (x.before ++ events_of e) (step input x.before (subst (Fed t.dearmor input) (ap (λ (b : Behind). x.before ++ events_behind b) none ∙ append-nil x.before) x.fed))

  text_ends : (h : Blocks) (input : List ℕ) (items : List Item) (opening : Option Opening) (rule : LineRule) (b : Built) (label : Option Label) (octets : List ℕ) (result : Result Unit Fault) → Framed accepts limits h (map armored_block b.blocks) label octets (items ++ opened opening) → rule ≡ line_rule limits
      → MatchResult result (λ _. Armored rule input b.blocks) (IsArmorFault rule input) → (result ≡ Ok tt → has_begun h ≡ false) → IsEnd accepts false limits h input items (opening, result)
  text_ends h input items opening rule b label octets (Ok tt) framed is armored closed = record {
    blocks = map armored_block b.blocks;
    holds = (b.blocks, subst (λ (n : LineRule). Armored n input b.blocks) is armored, refl);
    label = label;
    octets = octets;
    framed = framed;
    closed = closed refl;
  }
  text_ends h input items opening rule b label octets (Err fault) framed is faulty closed = subst (λ (n : LineRule). IsArmorFault n input fault) is faulty

  -- the last block has ended before
  same_blocks : (taken : List Event) (e : Option ArmorEvent) → (events_of e ≡ End ∷ [] → ⊥) → (built (taken ++ events_of e)).blocks ≡ (built taken).blocks
  same_blocks taken None other = ap (λ (l : List Event). (built l).blocks) (append-nil taken)
  same_blocks taken (Some (armor.Begin label)) other = ap (λ (b : Built). b.blocks) (built_next taken (Begin label))
  same_blocks taken (Some (armor.Header key value)) other = ap (λ (b : Built). b.blocks) (built_next taken (Header key.items value.items))
  same_blocks taken (Some (armor.Octets octets)) other = ap (λ (b : Built). b.blocks) (built_next taken (Octets octets.items))
  same_blocks taken (Some armor.End) other = absurd (other refl)

  -- a block that is open stays so
  still_open : (inside : Bool) (e : Option ArmorEvent) → (events_of e ≡ End ∷ [] → ⊥) → inside ≡ true → is_open_behind inside (events_of e) ≡ true
  still_open inside None other is = is
  still_open inside (Some (armor.Begin label)) other is = refl
  still_open inside (Some (armor.Header key value)) other is = is
  still_open inside (Some (armor.Octets octets)) other is = is
  still_open inside (Some armor.End) other is = absurd (other refl)

  -- the framer was given all that was taken, and the text ends
  ended_before : (d : Dearmor) (t : Text) (f : Blocks) (input : List ℕ) (items : List Item) (e : Option ArmorEvent) (result : Result Unit Fault) (x : Through accepts limits t f input items) → t.behind ≡ behind.Nothing → waiting_in t ≡ [] → (events_of e ≡ End ∷ [] → ⊥) → rule_of d ≡ rule_of t.dearmor
      → MatchResult result (λ _. Armored (rule_of d) input (built (x.before ++ events_of e)).blocks) (IsArmorFault (rule_of d) input) → (result ≡ Ok tt → is_open_behind false (x.before ++ events_of e) ≡ false) → IsEnd accepts false limits f input items (None, result)
  ended_before d t f input items e result x none empty other rule answer closed =
      let same = same_blocks x.before e other in
      let framed : Framed accepts limits f (map armored_block (built (x.before ++ events_of e)).blocks) (Some (built x.before).label) x.framed.0 (items ++ []) =
      subst (λ (l : List Item). Framed accepts limits f (map armored_block (built (x.before ++ events_of e)).blocks) (Some (built x.before).label) x.framed.0 l) (sym (append-nil items))
      (subst (λ (bs : List Block). Framed accepts limits f (map armored_block bs) (Some (built x.before).label) x.framed.0 items) (sym same) x.framed.2) in
      text_ends f input items None (rule_of d) (built (x.before ++ events_of e)) (Some (built x.before).label) x.framed.0 result framed (rule ∙ x.rule) answer
      (λ ok. false_of (has_begun f) (λ begun. not_both (is_open_behind false (x.before ++ events_of e))
      (inside-append false x.before (events_of e) ∙ still_open (is_open_behind false x.before) e other (x.inside (subst (λ (w : List ℕ). is_known f w ≡ true) (sym empty) begun))) (closed ok)))

  ended_same : (d : Dearmor) (t : Text) (f h : Blocks) (input : List ℕ) (items : List Item) (e : Option ArmorEvent) (opening : Option Opening) (result : Result Unit Fault) (x : Through accepts limits t f input items) → t.behind ≡ behind.Nothing → waiting_in t ≡ [] → (events_of e ≡ End ∷ [] → ⊥) → rule_of d ≡ rule_of t.dearmor
      → (h ≡ f) × (opening ≡ None)
      → MatchResult result (λ _. Armored (rule_of d) input (built (x.before ++ events_of e)).blocks) (IsArmorFault (rule_of d) input) → (result ≡ Ok tt → is_open_behind false (x.before ++ events_of e) ≡ false) → IsEnd accepts false limits h input items (opening, result)
  ended_same d t f h input items e opening result x none empty other rule same answer closed =
      subst (λ (g : Blocks). IsEnd accepts false limits g input items (opening, result)) (sym same.0)
      (subst (λ (o : Option Opening). IsEnd accepts false limits f input items (o, result)) (sym same.1) (ended_before d t f input items e result x none empty other rule answer closed))

  -- the last line ends the last block
  ended_now : (d : Dearmor) (t : Text) (f h : Blocks) (input : List ℕ) (items : List Item) (opening : Option Opening) (result : Result Unit Fault) (x : Through accepts limits t f input items) → t.behind ≡ behind.Nothing → waiting_in t ≡ [] → rule_of d ≡ rule_of t.dearmor
      → ((b : Built) → Framed accepts limits f (map armored_block b.blocks) (Some b.label) b.octets items → Framed accepts limits h (map armored_block (absorb b End).blocks) (Some b.label) [] (items ++ opened opening)) → has_begun h ≡ false
      → MatchResult result (λ _. Armored (rule_of d) input (built (x.before ++ End ∷ [])).blocks) (IsArmorFault (rule_of d) input) → IsEnd accepts false limits h input items (opening, result)
  ended_now d t f h input items opening result x none empty rule step begun answer =
      let b = built x.before in
      let all : b.octets ≡ x.framed.0 = x.framed.1 ∙ ap (λ (w : List ℕ). x.framed.0 ++ w) empty ∙ append-nil x.framed.0 in
      let framed = step b (subst (λ (o : List ℕ). Framed accepts limits f (map armored_block b.blocks) (Some b.label) o items) (sym all) x.framed.2) in
      text_ends h input items opening (rule_of d) (absorb b End) (Some b.label) [] result framed (rule ∙ x.rule)
      (subst (λ (v : Built). MatchResult result (λ _. Armored (rule_of d) input v.blocks) (IsArmorFault (rule_of d) input)) (built_next x.before End) answer) (λ ok. begun)

  -- the last line ends the last block, or it has ended before
  pub ended_so : (d : Dearmor) (t : Text) (f h : Blocks) (input : List ℕ) (items : List Item) (e : Option ArmorEvent) (opening : Option Opening) (result : Result Unit Fault) (x : Through accepts limits t f input items) → t.behind ≡ behind.Nothing → waiting_in t ≡ [] → rule_of d ≡ rule_of t.dearmor
      → (events_of e ≡ End ∷ [] → Ends f h opening) → ((events_of e ≡ End ∷ [] → ⊥) → (h ≡ f) × (opening ≡ None))
      → MatchResult result (λ _. Armored (rule_of d) input (built (x.before ++ events_of e)).blocks) (IsArmorFault (rule_of d) input) → (result ≡ Ok tt → is_open_behind false (x.before ++ events_of e) ≡ false) → IsEnd accepts false limits h input items (opening, result)
  ended_so d t f h input items (Some armor.End) opening result x none empty rule end other answer closed =
      let ends = end refl in
      ended_now d t f h input items opening result x none empty rule
      (λ b framed. subst (λ (bs : List TextBlock). Framed accepts limits h bs (Some b.label) [] (items ++ opened opening)) (sym (map-append armored_block b.blocks _)) (ends.framed accepts limits _ _ b.octets items framed)) ends.begun answer
  ended_so d t f h input items None opening result x none empty rule end other answer closed =
      ended_same d t f h input items None opening result x none empty (λ e. cc) rule (other (λ e. cc)) answer closed
  ended_so d t f h input items (Some (armor.Begin label)) opening result x none empty rule end other answer closed =
      ended_same d t f h input items (Some (armor.Begin label)) opening result x none empty (λ e. cc) rule (other (λ e. cc)) answer closed
  ended_so d t f h input items (Some (armor.Header key value)) opening result x none empty rule end other answer closed =
      ended_same d t f h input items (Some (armor.Header key value)) opening result x none empty (λ e. cc) rule (other (λ e. cc)) answer closed
  ended_so d t f h input items (Some (armor.Octets octets)) opening result x none empty rule end other answer closed =
      ended_same d t f h input items (Some (armor.Octets octets)) opening result x none empty (λ e. cc) rule (other (λ e. cc)) answer closed
