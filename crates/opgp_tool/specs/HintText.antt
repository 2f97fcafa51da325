-- The advice on an input that is refused, in words.
use Rattle.std.specs.Prelude.{ℕ, List, codes}
use Rattle.opgp_tool.specs.declared.hint.Advice.{Advice}
use Rattle.opgp_tool.specs.declared.hint.Advice.TheVariants as advice

-- what is told of each
unfoldable pub text_of : Advice → List ℕ
text_of advice.Empty = codes "the input is empty"
text_of advice.Gzip = codes "this looks like gzip; decompress it first"
text_of advice.Bzip2 = codes "this looks like bzip2; decompress it first"
text_of advice.Xz = codes "this looks like xz; decompress it first"
text_of advice.Zstandard = codes "this looks like zstd; decompress it first"
text_of advice.Zip = codes "this looks like a zip archive; unpack it first"
text_of advice.Png = codes "this looks like a PNG picture, not a key"
text_of advice.Jpeg = codes "this looks like a JPEG picture, not a key"
text_of advice.Pdf = codes "this looks like a PDF document, not a key"
text_of advice.Page = codes "this looks like an HTML or XML page; save the text of the key alone"
text_of advice.Keybox = codes "this is GnuPG's keybox; gpg --export writes its keys"
text_of advice.Pem = codes "this looks like PEM, as TLS and SSH have it; OpenPGP has -----BEGIN PGP"
text_of advice.Ssh = codes "this looks like an SSH key, not like OpenPGP"
text_of advice.ByteOrderMark =
    codes "the input begins with a byte order mark; remove its three octets"
text_of advice.Wide = codes "this looks like UTF-16 text; save it as UTF-8"
text_of advice.NotArmored = codes "no line begins with -----BEGIN PGP; this isn't armored"
text_of advice.Quoted =
    codes "a begin line that isn't at the start of its line; remove what is in front of each line"
text_of advice.SignedText =
    codes "a cleartext signed message; opgp cleartext reads it"
text_of advice.SecondMessage =
    codes "a second signed message; opgp cleartext reads one, so give it each by itself"
text_of advice.ArmoredFile = codes "an ARMORED FILE; gpg --dearmor writes its octets"
text_of advice.LostLineEnds =
    codes "text follows the begin line's hyphens; remove it, or restore the line ends that were lost"
text_of advice.OtherLabel = codes "a begin line of no block that opgp reads"
text_of advice.NoHeader = codes "not a header; a blank line must be in front of the data"
text_of advice.NoLetter = codes "a character that isn't base64; the text is quoted or was changed"
text_of advice.BadPadding =
    codes "the base64 doesn't end as it must; letters are missing or changed"
text_of advice.AfterChecksum = codes "text between the checksum and the end line"
text_of advice.GluedFiles =
    codes "a begin line within a block; the end line, or the line end in front of it, is missing"
text_of advice.NoEndLine = codes "begins with a hyphen, but isn't the block's end line"
text_of advice.LongLine = codes "a line longer than --line allows"
text_of advice.CutText = codes "the text ends within a block; its end line is missing"
text_of advice.NotBlank =
    codes "not blank, outside of armored blocks; read each file by itself, or remove the line"
text_of advice.ReadAsPackets =
    codes "a begin line of armor, but this was read as packets; --mode armor reads armored blocks alone"
text_of advice.BehindPackets =
    codes "armor behind packets; write each file by itself with opgp write --out binary, and join these"
text_of advice.LineEndBehind = codes "a line end where a packet should begin; remove it"
text_of advice.ZerosBehind = codes "zeros where a packet should begin; remove them"
text_of advice.NoPacket = codes "these octets aren't an OpenPGP packet"
text_of advice.CutPacket = codes "octets of a packet are missing; it was cut, or isn't OpenPGP"
text_of advice.CompressedPacket =
    codes "a packet of compressed data, as messages have; gpg --decrypt unpacks it"
text_of advice.OtherPacket = codes "a packet that opgp doesn't read, or no OpenPGP at all"
text_of advice.LongInput = codes "the input is longer than --input allows"
text_of advice.LongBody = codes "a packet longer than --body allows, or no OpenPGP at all"
text_of advice.ManyPieces = codes "a packet in more pieces than --pieces allows"
text_of advice.LongCertificate =
    codes "a certificate, or what precedes the first one, longer than --cert allows"
text_of advice.Malformed = codes "a malformed packet; --malformed keep accepts it if it is a signature"
text_of advice.OtherKeyVersion =
    codes "a key of a version other than 4 and 6; nothing of the keyring is read, so export it without that key"
text_of advice.SecretKey =
    codes "a secret key; don't pass it on (gpg --export writes the public key)"
text_of advice.SignatureBlock = codes "a signature alone; opgp show lists its packets"
text_of advice.MessageBlock = codes "a message, not a keyring; opgp show lists its packets"
text_of advice.OtherBlock =
    codes "a block that this command doesn't read; opgp show lists its packets"
text_of advice.NoPrimary =
    codes "no key in front of it; a revocation certificate goes behind its key, a detached signature isn't a keyring"
text_of advice.MessagePacket = codes "a packet of a message, not of a keyring; opgp show lists it"
text_of advice.ForeignPacket = codes "a packet that no public keyring has; opgp show lists it"
text_of advice.NotSigned = codes "not one literal packet with its signatures"
text_of advice.NotASignature =
    codes "not detached signatures alone; opgp show lists any packets"
text_of advice.StrayReturn =
    codes "a carriage return without a line feed; programs hash three different texts for it"
text_of advice.NoSignedText =
    codes "no cleartext signed message; one begins with -----BEGIN PGP SIGNED MESSAGE-----"
text_of advice.BesideMessage = codes "not blank, outside of the signed message; nothing signs it"
text_of advice.NoHashHeader =
    codes "not a Hash header, which names hash algorithms; a blank line must be in front of the text"
text_of advice.Unescaped =
    codes "a hyphen begins the line, and no escape, a hyphen and a space, is in front of it"
text_of advice.NoText = codes "no line of text in front of the signatures"
text_of advice.CutMessage =
    codes "the text ends within the signed message; its signatures are missing"
text_of advice.OtherVerdicts =
    codes "opgp-verify --verdicts writes the file of verdicts on a keyring, from the same octets"
