-- The bytes that a sink in memory took, its room, and its writes that fail.
use Rattle.std.specs.Prelude.{ℕ, Bool, List}
use Rattle.hp_io.specs.declared.mem_sink.MemSink.{MemSink}
use Rattle.hp_io.specs.Schedules.{is_listed}

-- all that it took
abbrev pub bytes_of : MemSink → List ℕ
bytes_of sink = sink.taken.items

-- how many bytes it can still take
abbrev pub room_of : MemSink → ℕ
room_of sink = sink.room

-- how many bytes one write takes at most
abbrev pub limit_of : MemSink → ℕ
limit_of sink = sink.limit

-- how often a write failed
abbrev pub faults_of : MemSink → ℕ
faults_of sink = sink.faults

-- the number of the next write
abbrev pub next_call : MemSink → ℕ
next_call sink = sink.schedule.next

-- the write of this number is to fail
abbrev pub fails_at : MemSink → ℕ → Bool
fails_at sink n = is_listed sink.schedule n

-- the next write is to fail
abbrev pub next_fails : MemSink → Bool
next_fails sink = fails_at sink (next_call sink)
