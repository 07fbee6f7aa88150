-- A request for a write, and how many writes are stored where those of one key are all above the floor.
use Rattle.std.proofs.Common.{◌≡◌, ℕ, ◌+◌, ◌-◌, ◌<◌, ◌≤◌, Bool, true, false, cond, ◌&&◌, ◌||◌, not, List, [], ◌∷◌, ◌++◌, Option, None, Result, Ok, Err, length, filter, refl, sym, ap, ◌∙◌, arith, length-append}
use Rattle.std.specs.Prelude.{nat_lt, nat_le}
use Rattle.std.specs.List.{Contains}
use Rattle.std.specs.Str.{bytes_eq}
use Rattle.std.proofs.lemmas.Bool.{le-ltb, lt-ltb, lt-leb, ltb-true, ltb-false}
use Rattle.std.proofs.lemmas.List.Elements.{filter-append}
use Rattle.std.proofs.lemmas.List.Filters.{length-filter_both}
use Rattle.kv_keys.specs.Grammar.{is_key}
use Rattle.kv_keys.specs.declared.error.KvError.{KvError}
use Rattle.kv_keys.specs.declared.error.KvError.TheVariants.{ValueTooLarge, Sealed, JournalFull}
use Rattle.kv_model.specs.Acceptance.{accept, is_full, IsAccepted, next_write, objection, unless}
use Rattle.kv_model.specs.Acts.{Act, Wrote, Write, is_put, is_sealed, writes_of}
use Rattle.kv_model.specs.Compaction.{stored_writes}
use Rattle.kv_model.specs.Configuration.{Configuration}
use Rattle.kv_model.specs.Requests.{Asked, put, delete, purge, key_of, value_of, write_for}
use Rattle.kv_model.specs.declared.write.Op.{Op}
use Rattle.kv_model.specs.declared.write.Op.TheVariants.{Put, Delete, Purge}
use Rattle.kv_model.proofs.Members.{Contains-here, Contains-there, filter-filter, filter_all}
use Rattle.kv_journal.specs.inside.Reachable.{IsWritable, RiseWithin}
use Rattle.kv_journal.proofs.RisingWrites.{rise_above}

-- ---- a request

-- a request that no key objects to, for a write
record Asks (w : Write) : Type 0 where
  asked : Asked
  makes : write_for asked w.revision ≡ w
  agreed : (acts : List Act) → objection asked acts ≡ None

-- there is one where the write of a marker has no value
asks : (w : Write) → (is_put w.op ≡ false → w.value ≡ []) → Asks w
asks w marker = by_op w.op refl
  where
    by_op : (op : Op) → w.op ≡ op → Asks w
    by_op Put e = record {
      asked = put w.key w.value;
      makes = ap (λ (op : Op). record { key = w.key; op = op; value = w.value; revision = w.revision }) (sym e);
      agreed = λ acts. refl;
    }
    by_op Delete e =
        let empty : w.value ≡ [] = marker (ap is_put e) in
        record {
          asked = delete w.key None;
          makes = ap (λ (op : Op). record { key = w.key; op = op; value = []; revision = w.revision }) (sym e) ∙ ap (λ (v : List ℕ). record { key = w.key; op = w.op; value = v; revision = w.revision }) (sym empty);
          agreed = λ acts. refl;
        }
    by_op Purge e =
        let empty : w.value ≡ [] = marker (ap is_put e) in
        record {
          asked = purge w.key None;
          makes = ap (λ (op : Op). record { key = w.key; op = op; value = []; revision = w.revision }) (sym e) ∙ ap (λ (v : List ℕ). record { key = w.key; op = w.op; value = v; revision = w.revision }) (sym empty);
          agreed = λ acts. refl;
        }

-- a write that some request has is accepted as the next one where there is room for it
pub writable_accepted : (config : Configuration) (acts : List Act) (w : Write) → IsWritable config w → is_sealed acts ≡ false → length (stored_writes config.history acts) < config.write_limit
    → length (writes_of acts) < config.revision_limit → w.revision ≡ length (writes_of acts) + 1 → IsAccepted config acts (Wrote w)
writable_accepted config acts w writable unsealed room more next = (asked, (key ∙ writable.is, accepts))
  where
    of : Asks w
    of = asks w writable.marker

    asked : Asked
    asked = of.asked

    key : is_key (key_of asked) ≡ is_key w.key
    key = ap (λ (v : Write). is_key v.key) of.makes

    small : nat_lt config.value_limit (length (value_of asked)) ≡ false
    small = ap (λ (v : Write). nat_lt config.value_limit (length v.value)) of.makes ∙ le-ltb config.value_limit (length w.value) writable.short

    not_full : is_full config acts ≡ false
    not_full =
        ap (λ (b : Bool). b || nat_le config.revision_limit (length (writes_of acts))) (lt-leb config.write_limit (length (stored_writes config.history acts)) room)
        ∙ lt-leb config.revision_limit (length (writes_of acts)) more

    accepts : accept config asked acts ≡ Ok w
    accepts =
        let it : Result Write KvError = unless (objection asked acts) (next_write asked acts) in
        ap (λ (b : Bool). let t : Result Write KvError = cond b (Err ValueTooLarge) (cond (is_sealed acts) (Err Sealed) (cond (is_full config acts) (Err JournalFull) it)) in t) small
        ∙ ap (λ (b : Bool). let t : Result Write KvError = cond b (Err Sealed) (cond (is_full config acts) (Err JournalFull) it) in t) unsealed
        ∙ ap (λ (b : Bool). let t : Result Write KvError = cond b (Err JournalFull) it in t) not_full
        ∙ ap (λ (o : Option KvError). unless o (next_write asked acts)) (of.agreed acts)
        ∙ ap (λ (n : ℕ). let t : Result Write KvError = Ok (write_for asked n) in t) (sym next)
        ∙ ap (λ (v : Write). let t : Result Write KvError = Ok v in t) of.makes

-- ---- how many are stored

-- tests that agree on the elements pass the same ones
pub filter_alike : (p q : Write → Bool) (ws : List Write) → ((w : Write) → Contains ws w → p w ≡ q w) → filter p ws ≡ filter q ws
filter_alike p q [] h = refl
filter_alike p q (w ∷ ws) h = rw (h w (Contains-here w ws), filter_alike p q ws (λ v m. h v (Contains-there w ws v m))) refl

-- where none is of the key, those of other keys are all
pub all_others : (key : List ℕ) (stored done : List Write) → filter (λ w. not (bytes_eq w.key key)) stored ≡ done → ((w : Write) → Contains stored w → bytes_eq w.key key ≡ false) → stored ≡ done
all_others key stored done e none = sym (filter_all (λ w. not (bytes_eq w.key key)) stored (λ w m. ap not (none w m))) ∙ e

-- no more are stored than there are revisions above the floor, and writes of other keys at or below it
pub stored_few : (floor last : ℕ) (key : List ℕ) (stored done : List Write) → RiseWithin 0 last stored → floor ≤ last → filter (λ w. not (bytes_eq w.key key)) stored ≡ done
    → ((w : Write) → Contains stored w → bytes_eq w.key key ≡ true → floor < w.revision) → length stored ≤ (last - floor) + length (filter (λ w. nat_lt w.revision (floor + 1)) done)
stored_few floor last key stored done rises l e above =
    omega (arith, length-filter_both high low turned stored, rise_above floor 0 last stored rises l, ap (λ (ws : List Write). length ws) same)
  where
    high : Write → Bool
    high w = nat_lt floor w.revision

    low : Write → Bool
    low w = nat_lt w.revision (floor + 1)

    other : Write → Bool
    other w = not (bytes_eq w.key key)

    turned : (w : Write) → low w ≡ not (high w)
    turned w = by_test (nat_lt floor w.revision) refl
      where
        by_test : (b : Bool) → nat_lt floor w.revision ≡ b → nat_lt w.revision (floor + 1) ≡ not b
        by_test true t = le-ltb w.revision (floor + 1) (omega (arith, ltb-true floor w.revision t))
        by_test false t = lt-ltb w.revision (floor + 1) (omega (arith, ltb-false floor w.revision t))

    agree : (w : Write) → Contains stored w → (other w && low w) ≡ low w
    agree w m = by_key (bytes_eq w.key key) refl
      where
        by_key : (b : Bool) → bytes_eq w.key key ≡ b → (not b && low w) ≡ low w
        by_key true t = sym (le-ltb w.revision (floor + 1) (omega (arith, above w m t)))
        by_key false t = refl

    same : filter low stored ≡ filter low done
    same = sym (filter_alike (λ w. other w && low w) low stored agree) ∙ sym (filter-filter low other stored) ∙ ap (filter low) e

-- no fewer pass a test where more stand behind
pub filter_grows : (p : Write → Bool) (ws vs : List Write) → length (filter p ws) ≤ length (filter p (ws ++ vs))
filter_grows p ws vs = omega (arith, ap (λ (us : List Write). length us) (filter-append p ws vs), length-append (filter p ws) (filter p vs))
