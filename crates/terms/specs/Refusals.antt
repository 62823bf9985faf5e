-- The number of each refusal. Assumes nothing.
use Rattle.std.specs.Prelude.{ℕ}
use Rattle.terms.specs.declared.refusal.Refusal.{Refusal}
use Rattle.terms.specs.declared.refusal.Refusal.TheVariants.{MomentOutOfRange, WrongToken, Ended, RequestOpen, NotDue, RequestsSpent, BufferShort, NoSuchNumber, OwnUri, Length, Header, Structure, Order, StreamWithoutUri, PathwayId, Uri, Count, ManifestLength, NotJson, KeyRepeated, VersionAbsent, VersionUnknown, Ttl, ReloadUri, Priority, Clones, CloneIdTaken, CloneMemberLong}

abbrev pub number : Refusal → ℕ
number MomentOutOfRange = 1
number WrongToken = 2
number Ended = 3
number RequestOpen = 4
number NotDue = 5
number RequestsSpent = 6
number BufferShort = 7
number NoSuchNumber = 8
number OwnUri = 9
number Length = 10
number Header = 11
number Structure = 12
number Order = 13
number StreamWithoutUri = 14
number PathwayId = 15
number Uri = 16
number Count = 17
number ManifestLength = 30
number NotJson = 31
number KeyRepeated = 32
number VersionAbsent = 33
number VersionUnknown = 34
number Ttl = 35
number ReloadUri = 36
number Priority = 37
number Clones = 38
number CloneIdTaken = 39
number CloneMemberLong = 40
