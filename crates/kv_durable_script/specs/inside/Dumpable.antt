-- What a dump asks of entries: each that can be added to a journal fulfils it.
use Rattle.std.specs.Prelude.{ℕ, ◌<◌, ◌^◌, ◌++◌, ◌∷◌, [], ⊤, List, codes, decimal, length}
use Rattle.std.specs.List.{AllByRecursion}
use Rattle.kv_model.specs.Acts.{Act, Wrote, Seal, Compact}
use Rattle.kv_model.specs.Requests.{asked, key_of, op_of, value_of}
use Rattle.kv_journal.specs.declared.decode.Record.{Record}
use Rattle.kv_journal.specs.declared.decode.Record.TheVariants as records
use Rattle.kv_durable_script.specs.Dumps.{write_line}
use Rattle.kv_journal.specs.Entries.{Entry}
use Rattle.kv_journal.specs.Records.{Content, did, did_all, closed, IsRecordableAct, act_record}

abbrev pub FitsAct : Act → Type 0
FitsAct (Wrote w) = ⊤
FitsAct Seal = ⊤
FitsAct (Compact floor) = floor < 2 ^ 64

-- the act can be told, and its record has a length of four bytes
pub record CanDumpAct (act : Act) : Type 0 where
  pub recordable : IsRecordableAct act
  pub fits : FitsAct act
  pub short : length (act_record act) < 2 ^ 32

abbrev pub CanDump : Content → Type 0
CanDump (did act) = CanDumpAct act
CanDump (did_all acts) = AllByRecursion CanDumpAct acts
CanDump (closed last) = ⊤

abbrev pub CanDumpEntry : Entry → Type 0
CanDumpEntry entry = (entry.loose < 2 ^ 32) × CanDump entry.content

-- it is told by a record of its own
abbrev pub IsSingle : Content → Type 0
IsSingle (did act) = ⊤
IsSingle (did_all acts) = ⊥
IsSingle (closed last) = ⊤

-- the lines of what a record says
abbrev pub said_lines : Record → List (List ℕ)
said_lines (records.Write request) = write_line (op_of (asked request)) (key_of (asked request)) (value_of (asked request)) ∷ []
said_lines records.Seal = codes "seal" ∷ []
said_lines (records.Compact floor) = (codes "compact " ++ decimal floor) ∷ []
said_lines (records.Closed last) = []

-- the number of a compaction fits in eight bytes
abbrev pub FitsRecord : Record → Type 0
FitsRecord (records.Compact floor) = floor < 2 ^ 64
FitsRecord other = ⊤
