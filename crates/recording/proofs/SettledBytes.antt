-- The settled examples about bytes hold, by computation. Assumes nothing.
use mathlib.Core.Path.{refl}
use Rattle.bits.specs.Bits.{bit_at, field}
use Rattle.levels.specs.Level.{twos}
use Rattle.cuts.specs.Below.{every, sum_to, tab}
use Rattle.recording.specs.Form.{bytes_for, n_at, station_bit, record_size, record_bit, m_at, start_at, first_at, origin_at, number_at, level_at, count_at, event_of, recording_of, needed, padding}
use Rattle.recording.specs.Check.{fault_of, scan_to, origin_ok, number_ok, stamp_ok, scan_records, checked_records, checked_of}
use Rattle.refusal.specs.Refusal.{at_record, at_whole}
use Rattle.recording.specs.ExampleBytes.{Settled}

pub settled_bytes : Settled
unfolding bit_at field twos every sum_to tab bytes_for n_at station_bit record_size record_bit m_at start_at first_at origin_at number_at level_at count_at event_of recording_of needed padding fault_of at_record at_whole scan_to origin_ok number_ok stamp_ok scan_records checked_records checked_of
settled_bytes = refl
