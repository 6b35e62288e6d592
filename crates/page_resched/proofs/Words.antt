-- The words of a form, read as operations with times: those of the schedule, numbered as they are listed.
use Rattle.std.proofs.Common.{◌≡◌, ℕ, zero, suc, ◌<◌, ◌^◌, List, [], ◌∷◌, length, get_or, refl, sym, ap, ◌∙◌, map, arith}
use Rattle.std.specs.Prelude.{option_and_then, is_some, Option}
use Rattle.std.specs.List.{range_with_len}
use Rattle.std.proofs.lemmas.List.FromFn.{fill_by_all, get_or-map-range_with_len, length-map-range_with_len}
use Rattle.std.proofs.lemmas.List.{length-map, get_or-map}
use Rattle.std.proofs.lemmas.Simd.{map-map}
use Rattle.operation.specs.declared.Guarded.{Guarded}
use Rattle.operation.specs.Places.{latency_kind}
use Rattle.machine_desc.specs.Description.{Description, latency_of}
use Rattle.serial_order.proofs.Members.{among_range, range_among}
use Rattle.list_encoding.specs.Bits.{bits}
use Rattle.list_encoding.specs.declared.opcodes.Mnemonic.{Mnemonic}
use Rattle.list_encoding.specs.Operands.{operation_in}
use Rattle.list_encoding.specs.Reading.{guarded_as, mnemonic_at, guarded_in, operation_of, or_halt, is_readable}
use Rattle.list_encoding.specs.Times.{word_pace, issue_cycle}
use Rattle.timed_meaning.specs.declared.TimedOp.{TimedOp}
use Rattle.two_timings.specs.Timing.{Timing, timed, timed_ops}
use Rattle.latency_deps.specs.Timing.{ops_of, own_timing}
use Rattle.latency_deps.specs.Block.{Block, block_in}
use Rattle.list_sched.specs.Schedule.{Schedule}
use Rattle.page_resched.specs.Block.{problem, timing_in}
use Rattle.size_invariance.specs.Shape.{AreAlike}
use Rattle.page_resched.specs.Form.{IsFormOf, AreForms, AreInForm}
use Rattle.page_resched.specs.Laws.{IsMovable, FormsHaveTimes, FormsAreScheduled}
use Rattle.page_resched.proofs.Forms.{TimesAre, times_are}
use Rattle.page_resched.proofs.Listings.{as_many_as}
use Rattle.page_resched.proofs.Movable.{is_problem}
use Rattle.page_resched.proofs.Agreeing.{is_moved}
use Rattle.page_resched.proofs.Renamed.{IsRenamed}

-- ---- words that are the same but for head mark and pause

-- the guarded operation in some fields
abbrev in_fields : (guard opcode d s tail : ℕ) → Option Guarded
in_fields guard opcode d s tail =
    option_and_then (guarded_as guard) (option_and_then (λ (m : Mnemonic). operation_in (record { mnemonic = m; d = d; s = s; tail = tail })) (mnemonic_at opcode))

pub same_guarded : (old new : ℕ) → AreAlike old new → guarded_in new ≡ guarded_in old
unfolding guarded_in
same_guarded old new a =
    let low = a.operation in
    let guard : bits 42 5 new ≡ bits 42 5 old = omega arith in
    let opcode : bits 47 7 new ≡ bits 47 7 old = omega arith in
    let d : bits 37 5 new ≡ bits 37 5 old = omega arith in
    let s : bits 32 5 new ≡ bits 32 5 old = omega arith in
    let tail : bits 0 32 new ≡ bits 0 32 old = omega arith in
    ap (λ x. in_fields x (bits 47 7 new) (bits 37 5 new) (bits 32 5 new) (bits 0 32 new)) guard
    ∙ ap (λ x. in_fields (bits 42 5 old) x (bits 37 5 new) (bits 32 5 new) (bits 0 32 new)) opcode
    ∙ ap (λ x. in_fields (bits 42 5 old) (bits 47 7 old) x (bits 32 5 new) (bits 0 32 new)) d
    ∙ ap (λ x. in_fields (bits 42 5 old) (bits 47 7 old) (bits 37 5 old) x (bits 0 32 new)) s
    ∙ ap (λ x. in_fields (bits 42 5 old) (bits 47 7 old) (bits 37 5 old) (bits 32 5 old) x) tail

pub same_operation : (old new : ℕ) → AreAlike old new → operation_of new ≡ operation_of old
same_operation old new a = ap or_halt (same_guarded old new a)

pub same_readable : (old new : ℕ) → AreAlike old new → is_readable new ≡ is_readable old
same_readable old new a = ap (λ (o : Option Guarded). is_some o) (same_guarded old new a)

-- ---- the words of a form

pub length_forms : (old : List ℕ) (s : Schedule) (past ks ws : List ℕ) → AreForms old s past ks ws → length ks ≡ length ws
length_forms old s past [] [] f = refl
length_forms old s past [] (w ∷ ws) f = elim f [ ]
length_forms old s past (k ∷ ks) [] f = elim f [ ]
length_forms old s past (k ∷ ks) (w ∷ ws) f = ap suc (length_forms old s (k ∷ past) ks ws f.1)

-- what holds of the first operations and of one
pub record FormAt (old : List ℕ) (s : Schedule) (ks ws : List ℕ) (m : ℕ) : Type 0 where
  pub past : List ℕ
  pub form : IsFormOf s past (get_or ks m 0) (get_or old (get_or ks m 0) 0) (get_or ws m 0)

pub form_at : (old : List ℕ) (s : Schedule) (past ks ws : List ℕ) → AreForms old s past ks ws → (m : ℕ) → m < length ks → FormAt old s ks ws m
form_at old s past [] [] f m h = absurd (omega arith)
form_at old s past [] (w ∷ ws) f m h = elim f [ ]
form_at old s past (k ∷ ks) [] f m h = elim f [ ]
form_at old s past (k ∷ ks) (w ∷ ws) f zero h = record { past = past; form = f.0 }
form_at old s past (k ∷ ks) (w ∷ ws) f (suc m) h = let q = form_at old s (k ∷ past) ks ws f.1 m (omega arith) in record { past = q.past; form = q.form }

module _ (b : Block) (g : Description) (new : List ℕ) (m : IsMovable b g) (f : AreInForm g b new) where
  abbrev n : ℕ
  n = length new

  abbrev pub number : ℕ → ℕ
  number k = get_or f.listed k 0

  abbrev old_ops : ℕ → Guarded
  old_ops = ops_of b.words

  abbrev scheduled : Timing
  scheduled = timing_in g f.schedule f.listed

  abbrev own : Timing
  own = own_timing g new

  pub times : TimesAre f.schedule f.listed new
  times = times_are (problem g b) f.schedule f.listed b.words new (is_problem b g m) f.scheduled f.listing f.forms

  pub as_listed : length f.listed ≡ n
  as_listed = length_forms b.words f.schedule [] f.listed new f.forms

  pub old_listed : map number own.listed ≡ f.listed
  old_listed = sym (fill_by_all number f.listed n 0 as_listed (λ k lt. refl))

  at_word : (k : ℕ) → k < n → FormAt b.words f.schedule f.listed new k
  at_word k lt = let l = as_listed in form_at b.words f.schedule [] f.listed new f.forms k (omega arith)

  -- each is a word of 64 bits
  pub is_word : (k : ℕ) → k < n → get_or new k 0 < 2 ^ 64
  is_word k lt = (at_word k lt).form.word

  pub alike_at : (k : ℕ) → k < n → AreAlike (get_or b.words (number k) 0) (get_or new k 0)
  alike_at k lt = (at_word k lt).form.alike

  pub same_op : (k : ℕ) → k < n → ops_of new k ≡ old_ops (number k)
  same_op k lt = same_operation (get_or b.words (number k) 0) (get_or new k 0) (alike_at k lt)

  pub same_at : (k : ℕ) → k < n → own.at k ≡ f.schedule.cycle (number k)
  same_at k lt =
      let l = as_listed in
      let p = length-map new word_pace in
      sym (get_or-map-range_with_len (issue_cycle (map word_pace new)) 0 (length (map word_pace new)) k k 0 (omega arith) (omega arith))
      ∙ ap (λ (xs : List ℕ). get_or xs k 0) times.cycles
      ∙ get_or-map f.schedule.cycle f.listed k 0 0 (omega arith)

  pub renamed : IsRenamed old_ops scheduled (ops_of new) own number
  renamed = record {
    listed = old_listed;
    same = λ k a. sym (same_op k (range_among n k a));
    at = λ k a. sym (same_at k (range_among n k a));
    latency = refl;
  }

  -- as many words as the block has
  pub full_count : n ≡ length b.words
  full_count =
      let moved = is_moved b g new m f in
      let n = length b.words in
      sym as_listed
      ∙ as_many_as f.listed n f.listing.complete.each_once (λ k a. range_among n k ((moved.complete.same k).0 a)) (λ k lt. (moved.complete.same k).1 (among_range n k lt))

  timed_is : (k : ℕ) → k < n → timed (ops_of new) own k ≡ timed old_ops scheduled (number k)
  timed_is k lt =
      let P : Guarded → ℕ → TimedOp = λ o c. record { guarded = o; at = c; latency = latency_of g (latency_kind o.op) } in
      ap (λ o. P o (own.at k)) (same_op k lt) ∙ ap (P (old_ops (number k))) (same_at k lt)

  pub ops_are : (block_in g new).ops ≡ timed_ops old_ops scheduled
  ops_are =
      let here = timed (ops_of new) own in
      let there = timed old_ops scheduled in
      fill_by_all (λ k. there (number k)) (map here (range_with_len 0 n)) n (here 0) (length-map-range_with_len here 0 n)
      (λ k lt. get_or-map-range_with_len here 0 n k k (here 0) lt (omega arith) ∙ timed_is k lt)
      ∙ sym (map-map there number (range_with_len 0 n))
      ∙ ap (map there) old_listed

pub forms_have_times : FormsHaveTimes
forms_have_times b g new m f = record { as_many = full_count b g new m f; cycles = (times b g new m f).cycles; end = (times b g new m f).end }

pub forms_are_scheduled : FormsAreScheduled
forms_are_scheduled b g new m f = ops_are b g new m f
