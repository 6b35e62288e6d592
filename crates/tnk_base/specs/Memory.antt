-- A host in memory, as its contracts see it.
use Rattle.std.specs.Prelude.{ℕ, ◌≡◌, ◌<◌, ◌≤◌, ◌⊎◌, Bool, IsTrue, IsFalse, nat_eq, List, length, Some, None, Result, Ok, Err, option_map}
use Rattle.std.specs.BTreeMap.{get_by_text}
use Rattle.std.specs.List.{list_any}
use Rattle.std.specs.declared.alloc.Global.{Global}
use Rattle.std.specs.declared.vec.Vec.{Vec}
use Rattle.tnk_base.specs.declared.host.Asked.{Asked}
use Rattle.tnk_base.specs.declared.host.FetchFault.{FetchFault}
use Rattle.tnk_base.specs.declared.host.FetchFault.TheVariants as fetches
use Rattle.tnk_base.specs.declared.host.HostFault.{HostFault}
use Rattle.tnk_base.specs.declared.host.HostFault.TheVariants as hosts
use Rattle.tnk_base.specs.declared.memory.MemoryHost.{MemoryHost}
use Rattle.tnk_base.specs.Host.{Files, Shown}

-- the bytes of each file, by its name
abbrev pub memory_files : MemoryHost → Files
memory_files h name = option_map (λ bytes. bytes.items) (get_by_text h.files name)

-- the bytes put out so far
abbrev pub memory_out : MemoryHost → List ℕ
memory_out h = h.out.items

-- the calls so far
abbrev pub memory_asked : MemoryHost → List Asked
memory_asked h = h.asked.items

-- the numbers of the calls that are to fail
abbrev pub memory_failing : MemoryHost → List ℕ
memory_failing h = h.failing.items

-- the count of faults
abbrev pub memory_faults : MemoryHost → ℕ
memory_faults h = h.faults

-- what it shows: all of that
abbrev pub memory_shows : MemoryHost → Shown
memory_shows h = record {
  files = Some (memory_files h);
  out = Some (memory_out h);
  asked = Some (memory_asked h);
  faults = memory_faults h;
}

-- the number of the next call is among those that are to fail
abbrev pub is_failing : MemoryHost → Bool
is_failing h = list_any (λ n. nat_eq n (length (memory_asked h))) (memory_failing h)

-- a keep or a put fails exactly where its number is to; want of memory comes before either
abbrev pub Answers : MemoryHost → Result Unit HostFault → Type 0
Answers h (Ok _) = IsFalse (is_failing h)
Answers h (Err hosts.Failed) = IsTrue (is_failing h)
Answers h (Err hosts.NoMemory) = Unit {0}

-- a fetch fails exactly where its number is to or no file has the name, and is too long exactly where the file is; want of memory comes before all
abbrev pub FetchAnswers : MemoryHost → List ℕ → ℕ → Result (Vec ℕ Global) FetchFault → Type 0
FetchAnswers h name limit (Ok bytes) = IsFalse (is_failing h) × (memory_files h name ≡ Some bytes.items) × (length bytes.items ≤ limit)
FetchAnswers h name limit (Err (fetches.TooLong n)) = IsFalse (is_failing h) × (option_map length (memory_files h name) ≡ Some n) × (limit < n)
FetchAnswers h name limit (Err fetches.Failed) = IsTrue (is_failing h) ⊎ (memory_files h name ≡ None)
FetchAnswers h name limit (Err fetches.NoMemory) = Unit {0}
