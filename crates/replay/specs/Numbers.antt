-- The numbers by which data, worths, parties and slots stand on a sheet.
use Rattle.std.specs.Prelude.{◌≡◌, ℕ, ◌^◌, ◌-◌, ℤ, pos, negsuc, Bool, false, cond, nat_lt}
use Rattle.kinds.specs.declared.kids.PerKid.{PerKid}
use Rattle.kinds.specs.declared.maps.MapData.{MapData}
use Rattle.kinds.specs.declared.traces.TraceData.{TraceData}
use Rattle.kinds.specs.declared.traces.Worst.{Worst}

-- the number, if it is at least 0 and below the bound; and else another, which the check that it meets refuses
abbrev pub below_or : ℕ → ℕ → ℤ → ℕ
below_or bound otherwise z = elim z [ pos n ↦ cond (nat_lt n bound) n otherwise | negsuc n ↦ otherwise ]

-- a number of eight bits, and one of thirty-two
abbrev pub byte_or : ℕ → ℤ → ℕ
byte_or = below_or 256

abbrev pub word_or : ℕ → ℤ → ℕ
word_or = below_or (2 ^ 32)

-- how data and worths of a kind stand on a sheet, as two numbers each
pub record SheetNumbers (D W : Type 0) : Type 0 where
  pub on_sheet : ℤ → ℤ → D
  pub data_numbers : D → ℤ × ℤ
  pub worth_numbers : W → ℤ × ℤ

module _ {D W : Type 0} (sheet : SheetNumbers D W) (Storable : D → Type 0) where
  -- data that is shown as numbers, and read from them again, is the same data
  abbrev pub ReadAgain : Type 0
  ReadAgain = (d : D) → Storable d → sheet.on_sheet (sheet.data_numbers d).0 (sheet.data_numbers d).1 ≡ d

  abbrev pub StandsFor : ℤ → ℤ → D → Type 0
  StandsFor fourth fifth d = Storable d × (sheet.data_numbers d ≡ (fourth, fifth))

  -- numbers that stand for no data of the kind are read as data that fits no kids
  abbrev pub OthersFitNoKids : (D → PerKid Bool → Bool) → Type 0
  OthersFitNoKids fits = (fourth fifth : ℤ) → ((d : D) → StandsFor fourth fifth d → ⊥) → (kids : PerKid Bool) → fits (sheet.on_sheet fourth fifth) kids ≡ false

abbrev pub map_on : ℤ → ℤ → MapData
map_on code number = record { code = byte_or 255 code; number = number }

abbrev pub map_numbers : MapData → ℤ × ℤ
map_numbers d = (pos d.code, d.number)

abbrev pub map_worth_numbers : ℤ → ℤ × ℤ
map_worth_numbers kpa = (kpa, pos 0)

abbrev pub trace_on : ℤ → ℤ → TraceData
trace_on severity hour = record { severity = byte_or 255 severity; hour = word_or (2 ^ 32 - 1) hour }

abbrev pub trace_numbers : TraceData → ℤ × ℤ
trace_numbers d = (pos d.severity, pos d.hour)

abbrev pub worst_numbers : Worst → ℤ × ℤ
worst_numbers w = (pos w.severity, pos w.hour)

-- how maps and traces stand on a sheet
abbrev pub of_maps : SheetNumbers MapData ℤ
of_maps = record { on_sheet = map_on; data_numbers = map_numbers; worth_numbers = map_worth_numbers }

abbrev pub of_traces : SheetNumbers TraceData Worst
of_traces = record { on_sheet = trace_on; data_numbers = trace_numbers; worth_numbers = worst_numbers }
