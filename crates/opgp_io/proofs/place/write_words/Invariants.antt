use Rattle.std.proofs.Common.{◌≡◌, ◌≤◌, length, take}
use Rattle.opgp_io.specs.Line.{line_text}
use Rattle.opgp_io.proofs.place.write_words.Given as goal

abbrev pub invariant-loop-word : goal.invariant-loop-word
invariant-loop-word l = record {
  within : l.at ≤ length l.place;
  octets : take l.at l.place ≡ line_text (take l.word-index l.words);
}
