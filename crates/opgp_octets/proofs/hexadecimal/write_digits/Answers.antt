use Rattle.std.proofs.Common.{◌∙◌, ap, map}
use Rattle.std.specs.Char.{to_ascii_uppercase}
use Rattle.opgp_octets.proofs.Digits.{upper_of_lower}
use Rattle.opgp_octets.proofs.hexadecimal.write_digits.Goals as goal

pub returns : goal.returns
returns c =
    c.make_ascii_uppercase.ensures.after
    ∙ ap (map to_ascii_uppercase) c.in-Ok.ensures.written
    ∙ upper_of_lower c.args.octets.now
