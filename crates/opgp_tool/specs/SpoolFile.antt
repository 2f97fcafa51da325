-- A file in which a text is held.
use Rattle.std.specs.Prelude.{ℕ, List, Bool, ℤ, pos, ◌<ℤ◌, Option, Some, None, ⊤}
use Rattle.std.specs.Io.KnownBytes.{append_known}
use Rattle.opgp_tool.specs.declared.spool_file.SpoolFile.{SpoolFile}

-- some call of it has failed
abbrev pub spool_failed : {F : Type 0} → SpoolFile F → Bool
spool_failed s = s.has_failed

-- how many octets were put and aren't taken yet; as many as 2^64 - 1 are told as that
abbrev pub left_in : {F : Type 0} → SpoolFile F → ℕ
left_in s = s.left

-- what was put into it, where it is known what such a file holds: the file's octets, and then those
-- that wait to be written
abbrev pub put_so_far : {F : Type 0} → (F → Option (List ℕ)) → SpoolFile F → Option (List ℕ)
put_so_far contents s = append_known (contents s.file) s.waiting.items

-- the file that the system has
abbrev pub file_in : {F : Type 0} → SpoolFile F → F
file_in s = s.file

-- This is the number of an open file, if it is known, and not that of a standard stream: those are
-- 0, 1 and 2.
abbrev pub IsBesideStreams : Option ℤ → Type 0
IsBesideStreams None = ⊤
IsBesideStreams (Some fd) = pos 2 <ℤ fd
