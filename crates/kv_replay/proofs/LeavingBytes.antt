-- What bytes of a script leave that ended early.
use Rattle.std.proofs.Common.{◌≡◌, inl, inr, ℕ, List, [], ◌++◌, append-nil, Option, Result, Ok, Err, take, refl, sym, subst}
use Rattle.std.specs.Prelude.{⊤, OnErr, OnOk}
use Rattle.std.specs.Io.KnownBytes.{Appends}
use Rattle.kv_keys.specs.declared.error.KvError.{KvError}
use Rattle.kv_script.specs.declared.form.Form.{Form}
use Rattle.kv_single.specs.Held.{Bucketed, Represents}
use Rattle.kv_replay.specs.Replaying.{HasActs}
use Rattle.kv_replay.specs.Sessions.{Session, line_text, line_next}
use Rattle.kv_replay.specs.inside.Leaving.{LeavesBytes, LeavesLine}
use Rattle.kv_replay.specs.inside.Reading.{Reading, after_bytes, ended, grown, said, within}
use Rattle.kv_replay.specs.inside.Scripted.{Scripted}
use Rattle.kv_replay.specs.inside.Written.{Pours, PoursFront, Puts, PutsWhole}
use Rattle.kv_replay.specs.declared.lines.TheConstants.{KEPT_BYTES}
use Rattle.kv_replay.proofs.Pours.{front_later, poured_all, poured_part, pours_none, pours_on, puts_later}
use Rattle.kv_replay.proofs.TakingLines.{HasLine, Took, cut_more, reads_more, says_more, taken}

-- what went is a beginning of what waited and was said
pub puts_gone : (text : List ℕ) (held holds : Option (List ℕ)) (o q : List ℕ) → Pours text held o holds q → Puts (o ++ text) held holds
puts_gone text held holds o q pours = record { front = pours.gone; rest = q; parts = pours.parts; written = pours.written }

pub puts_whole : {all : List ℕ} {held holds : Option (List ℕ)} → PutsWhole all held holds → Puts all held holds
puts_whole {all} {held} {holds} puts = record { front = puts.front; rest = puts.rest; parts = puts.parts; written = puts.written }

-- all that waited went, or a beginning of it
pub poured_either : (all : List ℕ) (held mid holds : Option (List ℕ)) (out shown : List ℕ) (r : Result ⊤ KvError) → shown ≡ out → Pours all held [] mid out → OnOk r (Appends mid holds shown)
    → OnErr r ((n : ℕ) × Appends mid holds (take n shown)) → Puts all held holds
poured_either all held mid holds out shown (Ok done) same made wrote part =
    record { front = all; rest = []; parts = sym (append-nil all); written = poured_all all held mid holds out shown same made wrote }
poured_either all held mid holds out shown (Err e) same made wrote part = poured_part all held mid holds out shown same made part

abbrev SaidBy : Form → Reading Session → List ℕ → List ℕ
SaidBy form = said KEPT_BYTES (line_text form) (line_next form)

abbrev Behind : Form → Reading Session → List ℕ → Reading Session
Behind form = after_bytes KEPT_BYTES (line_text form) (line_next form)

abbrev EndedBy : Form → Reading Session → List ℕ
EndedBy form = ended KEPT_BYTES (line_text form) (line_next form)

module _ {form : Form} (r : Reading Session) (bytes : List ℕ) (held : Option (List ℕ)) (before : List ℕ) (wrote : Option (List ℕ)) (out : List ℕ) (script : Scripted) (left : List ℕ)
    (so_far : Took form r bytes held before wrote out script left) (failed lacked : Type 0) (bucket : Bucketed) where
  -- no more was done, and nothing more was said
  pub left_before : (wrote' : Option (List ℕ)) (out' : List ℕ) → HasActs so_far.reading.state.state.acts bucket → Pours [] wrote out wrote' out'
      → LeavesBytes form r bytes failed lacked held before wrote' out' bucket
  left_before wrote' out' acts pours =
      let poured : Pours so_far.done held before wrote' out' = pours_on so_far.done held wrote wrote' before out out' so_far.poured pours in
      record {
        front = so_far.front;
        first = (left, sym so_far.cut);
        acts = subst (λ (q : Reading Session). HasActs q.state.state.acts bucket) so_far.reads acts;
        fault = λ _. subst (λ t. Puts (before ++ t) held wrote') so_far.says (puts_gone so_far.done held wrote' before out' poured);
        memory = λ _. subst (λ t. PoursFront t held before wrote' out') so_far.says (record {
          front = so_far.done;
          rest = [];
          parts = sym (append-nil so_far.done);
          whole = so_far.whole;
          poured = poured;
        });
      }

  -- memory ran out before the next line
  pub left_untouched : script.session.bucket ≡ bucket → LeavesBytes form r bytes failed lacked held before wrote out bucket
  left_untouched same =
      left_before wrote out (so_far.reading.state.state, refl, subst (Represents so_far.reading.state.state) same so_far.holds.session.bucket) (pours_none wrote out)

module _ {form : Form} (r : Reading Session) (bytes : List ℕ) (held : Option (List ℕ)) (before : List ℕ) (wrote : Option (List ℕ)) (out : List ℕ) (script : Scripted) (left part rest : List ℕ)
    (so_far : Took form r bytes held before wrote out script left) (line : HasLine left part rest) (failed lacked : Type 0) (bucket : Bucketed) where
  abbrev said_line : List ℕ
  said_line = EndedBy form (within KEPT_BYTES so_far.reading part)

  abbrev front : List ℕ
  front = taken r bytes held before wrote out script left part rest so_far line

  -- in the midst of a line
  pub left_in_line : (wrote' : Option (List ℕ)) (out' : List ℕ)
      → LeavesLine so_far.reading.state.state.acts (line_next form so_far.reading.state (grown KEPT_BYTES so_far.reading.line part)).state.acts bucket wrote out wrote' out'
      → (failed → Puts (out ++ said_line) wrote wrote') → (lacked → PoursFront said_line wrote out wrote' out')
      → LeavesBytes form r bytes failed lacked held before wrote' out' bucket
  left_in_line wrote' out' leaves fault memory = elim leaves [
    | inl acts ↦ record {
      front = front;
      first = (rest, sym (cut_more r bytes held before wrote out script left part rest so_far line));
      acts = subst (λ (q : Reading Session). HasActs q.state.state.acts bucket) (reads_more r bytes held before wrote out script left part rest so_far line) acts;
      fault = λ f. subst (λ t. Puts (before ++ t) held wrote') (says_more r bytes held before wrote out script left part rest so_far line)
          (puts_later so_far.done said_line held wrote wrote' before out [] so_far.poured (fault f));
      memory = λ f. subst (λ t. PoursFront t held before wrote' out') (says_more r bytes held before wrote out script left part rest so_far line)
          (front_later so_far.done said_line held wrote wrote' before out out' so_far.poured so_far.whole (memory f));
    }
    | inr none ↦ left_before r bytes held before wrote out script left so_far failed lacked bucket wrote' out' none.0 none.1
  ]
