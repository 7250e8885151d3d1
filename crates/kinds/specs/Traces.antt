-- Fault traces: what trace data fits, the worst of a node and its kids, and how that is written out.
use Rattle.std.specs.Prelude.{ℕ, ◌^◌, ◌<◌, max, Bool, cond, ◌&&◌, List, ◌++◌, codes, nat_le}
use Rattle.std.specs.Fmt.{decimal}
use Rattle.kinds.specs.Bytes.{four_bytes, value_of}
use Rattle.kinds.specs.Limits.{greatest_severity, latest_hour}
use Rattle.kinds.specs.declared.gearbox.Situation.{Situation}
use Rattle.kinds.specs.declared.traces.TraceData.{TraceData}
use Rattle.kinds.specs.declared.traces.Worst.{Worst}

abbrev pub trace_fits : TraceData → Bool
trace_fits d = nat_le d.severity greatest_severity && nat_le d.hour latest_hour

abbrev pub no_trace : Worst
no_trace = record { severity = 0; hour = 0 }

abbrev pub worst_text : Worst → List ℕ
worst_text worst = codes "severity " ++ decimal worst.severity ++ codes ", hour " ++ decimal worst.hour

abbrev pub greatest : ℕ → ℕ → ℕ → ℕ → ℕ
greatest own a b c = max (max own a) (max b c)

abbrev pub worst_of : TraceData → Worst → Worst → Worst → Worst
worst_of d a b c = record {
  severity = greatest d.severity a.severity b.severity c.severity;
  hour = greatest d.hour a.hour b.hour c.hour;
}

abbrev pub trace_worth : TraceData → Situation → Worst → Worst → Worst → Worst
trace_worth d s a b c = cond (trace_fits d) (worst_of d a b c) no_trace

abbrev pub trace_bytes : TraceData → ℕ × List ℕ
trace_bytes d = (d.severity, four_bytes d.hour)

abbrev pub trace_from : ℕ → List ℕ → TraceData
trace_from byte word = record { severity = byte; hour = value_of word }

-- what trace data can hold at all: a severity of one byte and an hour of 32 bits
abbrev pub TraceStorable : TraceData → Type 0
TraceStorable d = (d.severity < 256) × (d.hour < 2 ^ 32)
