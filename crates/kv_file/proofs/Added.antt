-- Bytes that were added, or was not.
use Rattle.std.proofs.Common.{◌≡◌, ◌⊎◌, ℕ, Bool, List, [], ◌++◌, take, drop, refl, sym, ap, ◌∙◌, append_assoc, append-nil, inl, inr}
use Rattle.std.specs.Prelude.{Result, Ok, Err, OnErr}
use Rattle.std.proofs.lemmas.List.{take-append-drop}
use Rattle.kv_file.specs.Adding.{Fails}
use Rattle.kv_file.specs.Bytes.{Has}
use Rattle.kv_file.specs.declared.appender.Appender.{Appender}

-- what making room leaves, and what is counted then
abbrev pub HasRoom : {F : Type 0} (has : F → List ℕ → List ℕ → Type 0) (usable : F → Bool) (before : ℕ) (kept loose : List ℕ) → Appender F → Type 0
HasRoom has usable before kept loose j = (Has has usable kept loose j × (j.waiting ≡ before)) ⊎ (Has has usable (kept ++ loose) [] j × (j.waiting ≡ 0))

-- what is known of the file where it was not
abbrev pub HasFailed : {F : Type 0} (has : F → List ℕ → List ℕ → Type 0) (kept loose bytes : List ℕ) → F → Type 0
HasFailed has kept loose bytes file = (k : List ℕ) × (l : List ℕ) × Fails kept loose bytes k l × has file k l

nothing_added : (kept loose bytes : List ℕ) → Fails kept loose bytes kept loose
nothing_added kept loose bytes = record {
  disk = ([], append-nil kept);
  all = ([], append-nil (kept ++ loose));
  no_more = (bytes, refl);
}

pub without_room : {F : Type 0} (has : F → List ℕ → List ℕ → Type 0) (kept loose bytes : List ℕ) (file : F) → has file kept loose → HasFailed has kept loose bytes file
without_room has kept loose bytes file h = (kept, loose, nothing_added kept loose bytes, h)

half : (n : ℕ) (kept loose bytes : List ℕ) → Fails kept loose bytes kept (loose ++ take n bytes)
half n kept loose bytes = record {
  disk = ([], append-nil kept);
  all = (take n bytes, append_assoc kept loose (take n bytes));
  no_more = (
    drop n bytes,
    ap (λ (xs : List ℕ). xs ++ drop n bytes) (sym (append_assoc kept loose (take n bytes))) ∙ append_assoc (kept ++ loose) (take n bytes) (drop n bytes)
        ∙ ap (λ (xs : List ℕ). (kept ++ loose) ++ xs) (take-append-drop n bytes),
  );
}

half_alone : (n : ℕ) (kept loose bytes : List ℕ) → Fails kept loose bytes (kept ++ loose) (take n bytes)
half_alone n kept loose bytes = record {
  disk = (loose, refl);
  all = (take n bytes, refl);
  no_more = (
    drop n bytes,
    append_assoc (kept ++ loose) (take n bytes) (drop n bytes) ∙ ap (λ (xs : List ℕ). (kept ++ loose) ++ xs) (take-append-drop n bytes),
  );
}

pub half_added : {F : Type 0} (has : F → List ℕ → List ℕ → Type 0) (usable : F → Bool) (before : ℕ) (kept loose bytes : List ℕ) (first : Appender F) (file : F)
    → HasRoom has usable before kept loose first → ((k l : List ℕ) → Has has usable k l first → (n : ℕ) × has file k (l ++ take n bytes)) → HasFailed has kept loose bytes file
half_added has usable before kept loose bytes first file room on =
    elim room [
      | inl as_before ↦ let h = on kept loose as_before.0 in (kept, loose ++ take h.0 bytes, half h.0 kept loose bytes, h.1)
      | inr all_kept ↦ let h = on (kept ++ loose) [] all_kept.0 in (kept ++ loose, take h.0 bytes, half_alone h.0 kept loose bytes, h.1)
    ]

whole : (kept loose bytes : List ℕ) → Fails kept loose bytes kept (loose ++ bytes)
whole kept loose bytes = record {
  disk = ([], append-nil kept);
  all = (bytes, append_assoc kept loose bytes);
  no_more = ([], append-nil (kept ++ (loose ++ bytes)) ∙ sym (append_assoc kept loose bytes));
}

whole_alone : (kept loose bytes : List ℕ) → Fails kept loose bytes (kept ++ loose) bytes
whole_alone kept loose bytes = record {
  disk = (loose, refl);
  all = (bytes, refl);
  no_more = ([], append-nil ((kept ++ loose) ++ bytes));
}

pub not_kept : {F : Type 0} (has : F → List ℕ → List ℕ → Type 0) (usable : F → Bool) (before : ℕ) (kept loose bytes : List ℕ) (first second : Appender F) (file : F)
    → HasRoom has usable before kept loose first → ((k l : List ℕ) → Has has usable k l first → Has has usable k (l ++ bytes) second)
    → ((k l : List ℕ) → Has has usable k l second → has file k l) → HasFailed has kept loose bytes file
not_kept has usable before kept loose bytes first second file room on flush =
    elim room [
      | inl as_before ↦ (kept, loose ++ bytes, whole kept loose bytes, flush kept (loose ++ bytes) (on kept loose as_before.0))
      | inr all_kept ↦ (kept ++ loose, bytes, whole_alone kept loose bytes, flush (kept ++ loose) bytes (on (kept ++ loose) [] all_kept.0))
    ]

-- ---- what holds where a call has failed

pub when_err : {T E P : Type 0} (r : Result T E) → P → OnErr r P
when_err (Ok x) p = tt
when_err (Err e) p = p

pub so_on_err : {T E P Q : Type 0} (r : Result T E) → OnErr r P → (P → Q) → OnErr r Q
so_on_err (Ok x) h on = tt
so_on_err (Err e) h on = on h
