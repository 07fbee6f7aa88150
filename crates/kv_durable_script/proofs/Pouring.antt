-- The lines of a file's entries, made one entry after another.
use Rattle.std.proofs.Common.{◌≡◌, ℕ, ◌+◌, List, [], ◌∷◌, ◌++◌, length, take, Option, refl, sym, ap, ◌∙◌, subst, append_assoc, append-nil}
use Rattle.std.specs.List.{AllByRecursion}
use Rattle.std.specs.Io.KnownBytes.{Appends}
use Rattle.std.proofs.KnownBytes.{Appends-nil, Appends-trans}
use Rattle.kv_frames.specs.Frames.{BeginsWhole, IsPayload, Splits, frame, frames, offset_after}
use Rattle.kv_frames.proofs.Reading.{behind}
use Rattle.kv_journal.specs.Entries.{Entry, payload_of, payloads_of}
use Rattle.kv_replay.specs.inside.Written.{Pours, Puts}
use Rattle.kv_replay.proofs.LeavingBytes.{puts_gone}
use Rattle.kv_replay.proofs.Pours.{pours-trans, pours_none, pours_on, pours_out, puts_more, puts_waiting}
use Rattle.kv_durable_script.specs.Dumps.{commands_of, content_lines, dump_text, lines_text}
use Rattle.kv_durable_script.specs.inside.Dumpable.{CanDumpEntry}
use Rattle.kv_durable_script.proofs.Telling.{lines_text-append}

-- of the entries some are left, whose frames stand in the bytes that are left; the lines of the others wait or went
pub record HasPoured (seed offset : ℕ) (bytes rest : List ℕ) (entries : List Entry) (held : Option (List ℕ)) (before : List ℕ) (holds : Option (List ℕ)) (out : List ℕ) : Type 0 where
  pub left : List Entry
  pub splits : Splits seed offset bytes (payloads_of left) rest
  pub can : AllByRecursion CanDumpEntry left
  pub text : List ℕ
  pub parts : text ++ dump_text left ≡ dump_text entries
  pub poured : Pours text held before holds out

pub none_poured : (seed at : ℕ) (bytes rest : List ℕ) (entries : List Entry) (held : Option (List ℕ)) (out : List ℕ) → Splits seed at bytes (payloads_of entries) rest → AllByRecursion CanDumpEntry entries
    → HasPoured seed at bytes rest entries held out held out
none_poured seed at bytes rest entries held out splits can = record {
  left = entries;
  splits = splits;
  can = can;
  text = [];
  parts = refl;
  poured = pours_none held out;
}

-- the entry whose frame stands there
next_entry : (seed offset : ℕ) (bytes rest payload after : List ℕ) (left : List Entry) → Splits seed offset bytes (payloads_of left) rest → AllByRecursion CanDumpEntry left → IsPayload payload → bytes ≡ frame seed offset payload ++ after
    → (x : Entry) × (xs : List Entry) × (left ≡ x ∷ xs) × (payload_of x ≡ payload) × CanDumpEntry x × AllByRecursion CanDumpEntry xs × Splits seed (offset + (8 + length payload)) after (payloads_of xs) rest
next_entry seed offset bytes rest payload after [] splits can is found = absurd (splits.ended (payload, after, is, sym splits.whole ∙ found))
next_entry seed offset bytes rest payload after (x ∷ xs) splits can is found =
    let b = behind seed offset payload (payload_of x) after rest (payloads_of xs) is splits.each.0 (sym found ∙ splits.whole) in
    let same : payload ≡ payload_of x = b.0 in (
      x,
      xs,
      refl,
      sym same,
      can.0,
      can.1,
      record {
        whole = b.1;
        each = splits.each.1;
        ended = subst (λ (p : List ℕ). BeginsWhole seed (offset_after (offset + (8 + length p)) (payloads_of xs)) rest → ⊥) (sym same) splits.ended;
      },
    )

pub one_more_poured : (seed offset : ℕ) (bytes rest payload after : List ℕ) (entries : List Entry) (held mid holds : Option (List ℕ)) (before waited out waits : List ℕ)
    → HasPoured seed offset bytes rest entries held before mid waited → IsPayload payload × (bytes ≡ frame seed offset payload ++ after)
    → ((entry : Entry) → payload_of entry ≡ payload → CanDumpEntry entry → out ≡ waited ++ lines_text (content_lines entry.content)) → Pours [] mid out holds waits
    → HasPoured seed (offset + (8 + length payload)) after rest entries held before holds waits
one_more_poured seed offset bytes rest payload after entries held mid holds before waited out waits r found appends pours =
    let next = next_entry seed offset bytes rest payload after r.left r.splits r.can found.0 found.1 in
    let x = next.0 in
    let lines = lines_text (content_lines x.content) in
    let made : Pours lines mid waited mid out = pours_out lines mid waited out (appends x next.3 next.4) in
    let went : Pours lines mid waited holds waits = pours_on lines mid mid holds waited out waits made pours in
    record {
      left = next.1;
      splits = next.6;
      can = next.5;
      text = r.text ++ lines;
      parts = append_assoc r.text lines (dump_text next.1)
          ∙ ap (λ (t : List ℕ). r.text ++ t) (sym (lines_text-append (content_lines x.content) (commands_of next.1)) ∙ ap dump_text (sym next.2)) ∙ r.parts;
      poured = pours-trans r.text lines held mid holds before waited waits r.poured went;
    }

-- what went so far is a beginning of all
pub part_poured : (seed offset : ℕ) (bytes rest : List ℕ) (entries : List Entry) (held : Option (List ℕ)) (before : List ℕ) (holds : Option (List ℕ)) (out : List ℕ)
    → HasPoured seed offset bytes rest entries held before holds out → Puts (before ++ dump_text entries) held holds
part_poured seed offset bytes rest entries held before holds out r =
    subst (λ (t : List ℕ). Puts (before ++ t) held holds) r.parts
    (puts_more r.text (dump_text r.left) held holds before (puts_gone r.text held holds before out r.poured))

-- the sink failed behind one more
pub fault_poured : (seed offset : ℕ) (bytes rest payload after : List ℕ) (entries : List Entry) (held mid holds : Option (List ℕ)) (before waited out : List ℕ)
    → HasPoured seed offset bytes rest entries held before mid waited → IsPayload payload × (bytes ≡ frame seed offset payload ++ after)
    → ((entry : Entry) → payload_of entry ≡ payload → CanDumpEntry entry → out ≡ waited ++ lines_text (content_lines entry.content)) → (n : ℕ) × Appends mid holds (take n out)
    → Puts (before ++ dump_text entries) held holds
fault_poured seed offset bytes rest payload after entries held mid holds before waited out r found appends part =
    let next = next_entry seed offset bytes rest payload after r.left r.splits r.can found.0 found.1 in
    let x = next.0 in
    let lines = lines_text (content_lines x.content) in
    let made : Pours lines mid waited mid out = pours_out lines mid waited out (appends x next.3 next.4) in
    let went : Pours (r.text ++ lines) held before mid out = pours-trans r.text lines held mid mid before waited out r.poured made in
    let all : (r.text ++ lines) ++ dump_text next.1 ≡ dump_text entries =
    append_assoc r.text lines (dump_text next.1)
    ∙ ap (λ (t : List ℕ). r.text ++ t) (sym (lines_text-append (content_lines x.content) (commands_of next.1)) ∙ ap dump_text (sym next.2)) ∙ r.parts in
    subst (λ (t : List ℕ). Puts (before ++ t) held holds) all
    (puts_more (r.text ++ lines) (dump_text next.1) held holds before (puts_waiting (r.text ++ lines) held mid holds before out went part))

pub all_poured : (seed offset : ℕ) (bytes rest : List ℕ) (entries : List Entry) (held : Option (List ℕ)) (before : List ℕ) (holds : Option (List ℕ)) (out : List ℕ)
    → HasPoured seed offset bytes rest entries held before holds out → (BeginsWhole seed offset bytes → ⊥) → Pours (dump_text entries) held before holds out
all_poured seed offset bytes rest entries held before holds out r none = by r.left refl
  where
    by : (left : List Entry) → r.left ≡ left → Pours (dump_text entries) held before holds out
    by [] is = subst (λ (t : List ℕ). Pours t held before holds out) (sym (append-nil r.text) ∙ ap (λ (es : List Entry). r.text ++ dump_text es) (sym is) ∙ r.parts) r.poured
    by (x ∷ xs) is =
        let splits = subst (λ (es : List Entry). Splits seed offset bytes (payloads_of es) rest) is r.splits in
        absurd (none (
          payload_of x,
          frames seed (offset + (8 + length (payload_of x))) (payloads_of xs) ++ rest,
          splits.each.0,
          splits.whole ∙ append_assoc (frame seed offset (payload_of x)) (frames seed (offset + (8 + length (payload_of x))) (payloads_of xs)) rest,
        ))

-- and what waits goes
pub all_went : (text before out : List ℕ) (held mid holds : Option (List ℕ)) → before ≡ [] → Pours text held before mid out → Appends mid holds out → Appends held holds text
all_went text before out held mid holds none poured went =
    subst (Appends held holds) (sym poured.parts ∙ ap (λ (w : List ℕ). w ++ text) none) (Appends-trans held mid holds poured.gone out poured.written went)

-- nothing went yet
pub nothing_put : (all : List ℕ) (held : Option (List ℕ)) → Puts all held held
nothing_put all held = record { front = []; rest = all; parts = refl; written = Appends-nil held }
