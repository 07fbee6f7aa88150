-- The lines of entries are those of their records.
use Rattle.std.proofs.Common.{◌≡◌, ◌≢◌, ℕ, ◌+◌, ◌^◌, ◌<◌, Bool, true, false, cond, List, [], ◌∷◌, ◌++◌, length, get_or, drop, Some, None, refl, sym, ap, ◌∙◌, arith, append_assoc, append-nil, length-append}
use Rattle.std.specs.Prelude.{map, nat_lt, ◌&&◌}
use Rattle.std.specs.Int.{w32, to_be_bytes}
use Rattle.std.specs.List.{AllByRecursion, list_all}
use Rattle.kv_model.specs.Acts.{Act, Wrote, Seal, Compact}
use Rattle.kv_model.specs.Requests.{asked, key_of, op_of, value_of}
use Rattle.kv_journal.specs.Entries.{Entry, payload_of}
use Rattle.kv_journal.specs.Records.{Content, did, did_all, closed, IsRecordable, act_record, act_records, kind_of, record_of}
use Rattle.kv_journal.specs.Says.{Says}
use Rattle.kv_journal.specs.declared.decode.Record.{Record}
use Rattle.kv_journal.specs.declared.decode.Record.TheVariants as records
use Rattle.kv_journal.proofs.Saying.{kind_low, same_number, same_write}
use Rattle.kv_journal.proofs.Together.{one_part, some_there}
use Rattle.kv_durable_script.specs.Dumps.{act_line, content_lines, is_write, lines_text}
use Rattle.kv_durable_script.specs.inside.Dumpable.{CanDump, CanDumpAct, FitsRecord, IsSingle, said_lines}

-- ---- lines

pub lines_text-append : (xs ys : List (List ℕ)) → lines_text (xs ++ ys) ≡ lines_text xs ++ lines_text ys
lines_text-append [] ys = refl
lines_text-append (x ∷ xs) ys = ap (λ (more : List ℕ). (x ++ 10 ∷ []) ++ more) (lines_text-append xs ys) ∙ sym (append_assoc (x ++ 10 ∷ []) (lines_text xs) (lines_text ys))

-- ---- one record

abbrev first : List ℕ → ℕ
first xs = get_or xs 0 0

abbrev behind : List ℕ → List ℕ
behind xs = drop 1 xs

-- the lines of what it says are those of what it tells
pub said_is : (r : Record) (content : Content) (bytes : List ℕ) → Says r bytes → FitsRecord r → record_of content ≡ bytes → IsSingle content → CanDump content → said_lines r ≡ content_lines content
said_is (records.Write request) (did (Wrote w)) bytes said fits e single can =
    let same = same_write (op_of (asked request)) w.op (key_of (asked request)) w.key (value_of (asked request)) w.value (sym said.says ∙ sym e) in
    rw (same.0, same.1, same.2) refl
said_is (records.Write request) (did Seal) bytes said fits e single can =
    let d : 4 ≡ kind_of (op_of (asked request)) = ap first (e ∙ said.says) in absurd (omega (arith, d, kind_low (op_of (asked request))))
said_is (records.Write request) (did (Compact floor)) bytes said fits e single can =
    let d : 5 ≡ kind_of (op_of (asked request)) = ap first (e ∙ said.says) in absurd (omega (arith, d, kind_low (op_of (asked request))))
said_is (records.Write request) (closed last) bytes said fits e single can =
    let d : 9 ≡ kind_of (op_of (asked request)) = ap first (e ∙ said.says) in absurd (omega (arith, d, kind_low (op_of (asked request))))
said_is records.Seal (did (Wrote w)) bytes said fits e single can =
    let d : kind_of w.op ≡ 4 = ap first (e ∙ said) in absurd (omega (arith, d, kind_low w.op))
said_is records.Seal (did Seal) bytes said fits e single can = refl
said_is records.Seal (did (Compact floor)) bytes said fits e single can =
    let d : 5 ≡ 4 = ap first (e ∙ said) in absurd (omega (arith, d))
said_is records.Seal (closed last) bytes said fits e single can =
    let d : 9 ≡ 4 = ap first (e ∙ said) in absurd (omega (arith, d))
said_is (records.Compact n) (did (Wrote w)) bytes said fits e single can =
    let d : kind_of w.op ≡ 5 = ap first (e ∙ said) in absurd (omega (arith, d, kind_low w.op))
said_is (records.Compact n) (did Seal) bytes said fits e single can =
    let d : 4 ≡ 5 = ap first (e ∙ said) in absurd (omega (arith, d))
said_is (records.Compact n) (did (Compact floor)) bytes said fits e single can =
    let same : n ≡ floor = same_number n floor fits can.fits (ap behind (sym said ∙ sym e)) in
    rw same refl
said_is (records.Compact n) (closed last) bytes said fits e single can =
    let d : 9 ≡ 5 = ap first (e ∙ said) in absurd (omega (arith, d))
said_is (records.Closed n) (did (Wrote w)) bytes said fits e single can =
    let d : kind_of w.op ≡ 9 = ap first (e ∙ said) in absurd (omega (arith, d, kind_low w.op))
said_is (records.Closed n) (did Seal) bytes said fits e single can =
    let d : 4 ≡ 9 = ap first (e ∙ said) in absurd (omega (arith, d))
said_is (records.Closed n) (did (Compact floor)) bytes said fits e single can =
    let d : 5 ≡ 9 = ap first (e ∙ said) in absurd (omega (arith, d))
said_is (records.Closed n) (closed last) bytes said fits e single can = refl
said_is r (did_all acts) bytes said fits e single can = absurd single

pub single_recordable : (content : Content) → IsSingle content → CanDump content → IsRecordable content
single_recordable (did act) single can = can.recordable
single_recordable (did_all acts) single can = absurd single
single_recordable (closed last) single can = tt

-- ---- several records

-- the acts so far, those that are left, and what the first have come to
pub record HasRead (acts : List Act) (rest : List ℕ) (old new : List ℕ) : Type 0 where
  pub done : List Act
  pub left : List Act
  pub parts : acts ≡ done ++ left
  pub here : act_records left ≡ rest
  pub can : AllByRecursion CanDumpAct left
  pub appended : new ≡ old ++ lines_text (map act_line done)

pub none_read : (acts : List Act) (bytes old : List ℕ) → act_records acts ≡ bytes → AllByRecursion CanDumpAct acts → HasRead acts bytes old old
none_read acts bytes old e can = record { done = []; left = acts; parts = refl; here = e; can = can; appended = sym (append-nil old) }

-- what may come next
next_of : (left : List Act) (rest part after : List ℕ) → act_records left ≡ rest → AllByRecursion CanDumpAct left → length part < 2 ^ 32 → rest ≡ to_be_bytes w32 (length part) ++ (part ++ after)
    → (x : Act) × (xs : List Act) × (left ≡ x ∷ xs) × (act_record x ≡ part) × (act_records xs ≡ after) × CanDumpAct x × AllByRecursion CanDumpAct xs
next_of [] rest part after e can short is = absurd (some_there part after (e ∙ is))
next_of (x ∷ xs) rest part after e can short is =
    let both = one_part (act_record x) part (act_records xs) after can.0.short short (e ∙ is) in
    (x, xs, refl, both.0, both.1, can.0, can.1)

map-append : (xs ys : List Act) → map act_line (xs ++ ys) ≡ map act_line xs ++ map act_line ys
map-append [] ys = refl
map-append (x ∷ xs) ys = ap (λ (more : List (List ℕ)). act_line x ∷ more) (map-append xs ys)

pub one_more_read : (acts : List Act) (rest part after old mid new : List ℕ) → HasRead acts rest old mid → length part < 2 ^ 32 × (rest ≡ to_be_bytes w32 (length part) ++ (part ++ after))
    → ((content : Content) → record_of content ≡ part → IsSingle content → CanDump content → new ≡ mid ++ lines_text (content_lines content)) → HasRead acts after old new
one_more_read acts rest part after old mid new r found appends =
    let next = next_of r.left rest part after r.here r.can found.0 found.1 in
    let x = next.0 in
    let more : new ≡ mid ++ lines_text (act_line x ∷ []) = appends (did x) next.3 tt next.5 in
    record {
      done = r.done ++ x ∷ [];
      left = next.1;
      parts = r.parts ∙ ap (λ (w : List Act). r.done ++ w) next.2 ∙ sym (append_assoc r.done (x ∷ []) next.1);
      here = next.4;
      can = next.6;
      appended = more ∙ ap (λ (w : List ℕ). w ++ lines_text (act_line x ∷ [])) r.appended ∙ append_assoc old (lines_text (map act_line r.done)) (lines_text (act_line x ∷ []))
          ∙ ap (λ (w : List ℕ). old ++ w) (sym (ap lines_text (map-append r.done (x ∷ [])) ∙ lines_text-append (map act_line r.done) (act_line x ∷ [])));
    }

-- nothing is left where no part stands there
none_left : (left : List Act) (rest : List ℕ) → act_records left ≡ rest → AllByRecursion CanDumpAct left
    → ((part more : List ℕ) → length part < 2 ^ 32 → rest ≢ to_be_bytes w32 (length part) ++ (part ++ more)) → left ≡ []
none_left [] rest e can none = refl
none_left (x ∷ xs) rest e can none = absurd (none (act_record x) (act_records xs) can.0.short (sym e))

pub all_read : (acts : List Act) (rest old new : List ℕ) → HasRead acts rest old new → ((part more : List ℕ) → length part < 2 ^ 32 → rest ≢ to_be_bytes w32 (length part) ++ (part ++ more))
    → new ≡ old ++ lines_text (map act_line acts)
all_read acts rest old new r none =
    let all : acts ≡ r.done = r.parts ∙ ap (λ (w : List Act). r.done ++ w) (none_left r.left rest r.here r.can none) ∙ append-nil r.done in
    r.appended ∙ ap (λ (w : List Act). old ++ lines_text (map act_line w)) (sym all)

-- ---- how many writes

pub tells_kind : (act : Act) (bytes : List ℕ) → act_record act ≡ bytes → nat_lt (first bytes) 4 ≡ is_write act
tells_kind (Wrote w) bytes e = by_op w.op bytes (ap first e)
  where
    by_op : (op : Rattle.kv_model.specs.declared.write.Op.Op) (bytes : List ℕ) → kind_of op ≡ first bytes → nat_lt (first bytes) 4 ≡ true
    by_op Rattle.kv_model.specs.declared.write.Op.TheVariants.Put bytes e = rw (sym e) refl
    by_op Rattle.kv_model.specs.declared.write.Op.TheVariants.Delete bytes e = rw (sym e) refl
    by_op Rattle.kv_model.specs.declared.write.Op.TheVariants.Purge bytes e = rw (sym e) refl
tells_kind Seal bytes e = rw (sym e) refl
tells_kind (Compact floor) bytes e = rw (sym e) refl

pub record HasCounted (acts : List Act) (rest : List ℕ) (count : ℕ) : Type 0 where
  pub left : List Act
  pub here : act_records left ≡ rest
  pub can : AllByRecursion CanDumpAct left
  pub whole : length acts ≡ count + length left
  pub writes : list_all is_write acts ≡ list_all is_write left

pub none_counted : (acts : List Act) (bytes : List ℕ) → act_records acts ≡ bytes → AllByRecursion CanDumpAct acts → HasCounted acts bytes 0
none_counted acts bytes e can = record { left = acts; here = e; can = can; whole = omega arith; writes = refl }

pub one_more_counted : (acts : List Act) (rest part after : List ℕ) (count : ℕ) → HasCounted acts rest count → length part < 2 ^ 32 × (rest ≡ to_be_bytes w32 (length part) ++ (part ++ after))
    → ((act : Act) → act_record act ≡ part → true ≡ is_write act) → HasCounted acts after (count + 1)
one_more_counted acts rest part after count r found is =
    let next = next_of r.left rest part after r.here r.can found.0 found.1 in
    let write : is_write next.0 ≡ true = sym (is next.0 next.3) in
    let parts : r.left ≡ next.0 ∷ next.1 = next.2 in
    record {
      left = next.1;
      here = next.4;
      can = next.6;
      whole = omega (arith, r.whole, ap (λ (w : List Act). length w) parts);
      writes = r.writes ∙ ap (list_all is_write) parts ∙ ap (λ (b : Bool). b && list_all is_write next.1) write;
    }

pub all_counted : (acts : List Act) (rest : List ℕ) (count : ℕ) → HasCounted acts rest count → ((part more : List ℕ) → length part < 2 ^ 32 → rest ≢ to_be_bytes w32 (length part) ++ (part ++ more))
    → Some count ≡ cond (list_all is_write acts) (Some (length acts)) None
all_counted acts rest count r none =
    let empty = none_left r.left rest r.here r.can none in
    let writes : list_all is_write acts ≡ true = r.writes ∙ ap (list_all is_write) empty in
    let size : length acts ≡ count = omega (arith, r.whole, ap (λ (w : List Act). length w) empty) in
    rw (writes, size) refl

pub not_counted : (acts : List Act) (rest part after : List ℕ) (count : ℕ) → HasCounted acts rest count → length part < 2 ^ 32 × (rest ≡ to_be_bytes w32 (length part) ++ (part ++ after))
    → ((act : Act) → act_record act ≡ part → false ≡ is_write act) → None ≡ cond (list_all is_write acts) (Some (length acts)) None
not_counted acts rest part after count r found is =
    let next = next_of r.left rest part after r.here r.can found.0 found.1 in
    let write : is_write next.0 ≡ false = sym (is next.0 next.3) in
    let parts : r.left ≡ next.0 ∷ next.1 = next.2 in
    let writes : list_all is_write acts ≡ false = r.writes ∙ ap (list_all is_write) parts ∙ ap (λ (b : Bool). b && list_all is_write next.1) write in
    rw writes refl

-- ---- what begins a batch

pub count_told : (b : Bool) (n m : ℕ) → Some n ≡ cond b (Some m) None → (b ≡ true) × (n ≡ m)
count_told true n m e = (refl, cc)
count_told false n m e = absurd (let no : ⊥ = cc in no)

pub count_missing : (b : Bool) (m : ℕ) → None ≡ cond b (Some m) None → b ≡ false
count_missing true m e = absurd (let no : ⊥ = cc in no)
count_missing false m e = refl

-- ---- what a payload tells

pub tells_batch : (content : Content) (batch : List ℕ) → record_of content ≡ 10 ∷ batch → CanDump content → (acts : List Act) × (content ≡ did_all acts) × (act_records acts ≡ batch) × AllByRecursion CanDumpAct acts
tells_batch (did (Wrote w)) batch e can = let d : kind_of w.op ≡ 10 = ap first e in absurd (omega (arith, d, kind_low w.op))
tells_batch (did Seal) batch e can = let d : 4 ≡ 10 = ap first e in absurd (omega (arith, d))
tells_batch (did (Compact floor)) batch e can = let d : 5 ≡ 10 = ap first e in absurd (omega (arith, d))
tells_batch (did_all acts) batch e can = (acts, refl, ap behind e, can)
tells_batch (closed last) batch e can = let d : 9 ≡ 10 = ap first e in absurd (omega (arith, d))

pub tells_one : (content : Content) (bytes : List ℕ) → record_of content ≡ bytes → ((rest : List ℕ) → bytes ≢ 10 ∷ rest) → IsSingle content
tells_one (did act) bytes e none = tt
tells_one (did_all acts) bytes e none = absurd (none (act_records acts) (sym e))
tells_one (closed last) bytes e none = tt

pub parts_of : (loose other : ℕ) (content : Content) (bytes payload : List ℕ) → loose < 2 ^ 32 → other < 2 ^ 32 → to_be_bytes w32 loose ++ record_of content ≡ payload → payload ≡ to_be_bytes w32 other ++ bytes
    → record_of content ≡ bytes
parts_of loose other content bytes payload fits fits_too e is = ap (λ (w : List ℕ). drop 4 w) (e ∙ is)

pub too_short : (entry : Entry) (payload : List ℕ) → payload_of entry ≡ payload → length payload < 4 → ⊥
too_short entry payload e short = omega (arith, short, ap length e, length-append (to_be_bytes w32 entry.loose) (record_of entry.content))
