-- Faults and their texts: the layer in lower case, the reason's name, and the places in decimal.
use Rattle.std.specs.Prelude.{ℕ, List, ◌++◌, codes, Option}
use Rattle.std.specs.Fmt.{decimal}
use Rattle.opgp_octets.specs.declared.fault.Layer.{Layer}
use Rattle.opgp_octets.specs.declared.fault.Layer.TheVariants as layer
use Rattle.opgp_octets.specs.declared.fault.Reason.{Reason}
use Rattle.opgp_octets.specs.declared.fault.Reason.TheVariants as reason
use Rattle.opgp_octets.specs.declared.fault.TheConstants.Layer as layers
use Rattle.opgp_octets.specs.declared.fault.TheConstants.Reason as reasons
use Rattle.opgp_octets.specs.declared.fault.Fault.{Fault}
use Rattle.opgp_octets.specs.declared.fault.BodyFault.{BodyFault}
use Rattle.opgp_octets.specs.Rows.{with_number}

-- the number and the name of a layer
abbrev pub layer_row : Layer → ℕ × List ℕ
layer_row layer.Input = (0, codes "input")
layer_row layer.Armor = (1, codes "armor")
layer_row layer.Framing = (2, codes "framing")
layer_row layer.Body = (3, codes "body")
layer_row layer.Composition = (4, codes "composition")
layer_row layer.Text = (5, codes "text")
layer_row layer.Cleartext = (6, codes "cleartext")

abbrev pub layer_number : Layer → ℕ
layer_number l = (layer_row l).0

unfoldable pub layer_name : Layer → List ℕ
layer_name l = (layer_row l).1

-- the number and the name of a reason
abbrev pub reason_row : Reason → ℕ × List ℕ
reason_row reason.Spent = (1, codes "Spent")
reason_row reason.Short = (2, codes "Short")
reason_row reason.MpiBits = (3, codes "MpiBits")
reason_row reason.Outside = (9, codes "Outside")
reason_row reason.NoBlock = (10, codes "NoBlock")
reason_row reason.Label = (11, codes "Label")
reason_row reason.Header = (12, codes "Header")
reason_row reason.Letters = (13, codes "Letters")
reason_row reason.Padding = (14, codes "Padding")
reason_row reason.AfterChecksum = (15, codes "AfterChecksum")
reason_row reason.EndLabel = (16, codes "EndLabel")
reason_row reason.Unfinished = (17, codes "Unfinished")
reason_row reason.LineTooLong = (18, codes "LineTooLong")
reason_row reason.InputTooLong = (19, codes "InputTooLong")
reason_row reason.NotAPacket = (20, codes "NotAPacket")
reason_row reason.TypeZero = (21, codes "TypeZero")
reason_row reason.Compressed = (22, codes "Compressed")
reason_row reason.UnknownCritical = (23, codes "UnknownCritical")
reason_row reason.Indeterminate = (24, codes "Indeterminate")
reason_row reason.Truncated = (25, codes "Truncated")
reason_row reason.PartialKind = (26, codes "PartialKind")
reason_row reason.FirstPartial = (27, codes "FirstPartial")
reason_row reason.BodyTooLong = (28, codes "BodyTooLong")
reason_row reason.TooManyPieces = (29, codes "TooManyPieces")
reason_row reason.KeyVersion = (30, codes "KeyVersion")
reason_row reason.KeyTooLong = (31, codes "KeyTooLong")
reason_row reason.Count = (32, codes "Count")
reason_row reason.OidSize = (33, codes "OidSize")
reason_row reason.KdfSize = (34, codes "KdfSize")
reason_row reason.Trailing = (35, codes "Trailing")
reason_row reason.SubEmpty = (36, codes "SubEmpty")
reason_row reason.SubShort = (37, codes "SubShort")
reason_row reason.AreaShort = (40, codes "AreaShort")
reason_row reason.SaltSize = (41, codes "SaltSize")
reason_row reason.StrayReturn = (43, codes "StrayReturn")
reason_row reason.Unescaped = (44, codes "Unescaped")
reason_row reason.NoText = (45, codes "NoText")
reason_row reason.NoMessage = (46, codes "NoMessage")
reason_row reason.NoPrimary = (50, codes "NoPrimary")
reason_row reason.NotInKeyring = (51, codes "NotInKeyring")
reason_row reason.CertTooLong = (52, codes "CertTooLong")
reason_row reason.NotASignedLiteral = (53, codes "NotASignedLiteral")
reason_row reason.BlockLabel = (54, codes "BlockLabel")
reason_row reason.NotASignature = (55, codes "NotASignature")

abbrev pub reason_number : Reason → ℕ
reason_number r = (reason_row r).0

unfoldable pub reason_name : Reason → List ℕ
reason_name r = (reason_row r).1

-- The layer, and the reason, that a number stands for: of all that the program has. That each of
-- them is among those is a law of numbers_of_faults.
unfoldable pub layer_of : ℕ → Option Layer
layer_of n = with_number layer_number n layers.ALL

unfoldable pub reason_of : ℕ → Option Reason
reason_of n = with_number reason_number n reasons.ALL

-- the line of a fault, without its end
abbrev pub fault_text : Fault → List ℕ
fault_text f =
    layer_name f.layer ++ codes ": " ++ reason_name f.reason ++ codes " block " ++ decimal f.block
    ++ codes " at " ++ decimal f.pos ++ codes " inner " ++ decimal f.inner

-- the text of a body's fault, which doesn't state the packet's place
abbrev pub body_fault_text : BodyFault → List ℕ
body_fault_text f = reason_name f.reason ++ codes " inner " ++ decimal f.inner
