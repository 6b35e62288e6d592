-- What the program says of itself.
use Rattle.std.specs.Prelude.{ℕ, List, ◌++◌, codes}

-- the program's name and version
unfoldable pub version_line : List ℕ
version_line = codes "tinker 0.1\n"

-- each command with its words, and what it does
unfoldable pub help_commands : List ℕ
help_commands =
    codes "tinker: old VLIW object code on newer machine generations, with proved answers\n"
    ++ codes "tinker check IMAGE                                says whether an image is accepted, or which rule it breaks first\n"
    ++ codes "tinker meaning [SETTINGS] IMAGE INPUT             runs an image by its definition: how it ends, and what it puts out\n"
    ++ codes "tinker run [SETTINGS] (IMAGE GENERATION INPUT)..  runs 1 to 8 images on generations, page by page, and tells the cycles\n"
    ++ codes "tinker resched IMAGE GENERATION OUT               writes an image for another generation, which means the same\n"
    ++ codes "tinker gen NUMBER BLOCKS OPS OUT                  writes an image drawn from a number, and runs it on t1, t2 and t3\n"
    ++ codes "tinker --help                                     puts out this page\n"
    ++ codes "tinker --version                                  puts out the version\n"

-- the settings, the statuses, and where to read more
unfoldable pub help_rest : List ℕ
help_rest =
    codes "INPUT is a file, or - for an empty input. GENERATION is own, t1, t2, t3 or a description file.\n"
    ++ codes "NUMBER is 0 to 4294967295, BLOCKS 1 to 256, and OPS 1 to 500 operations of each block.\n"
    ++ codes "SETTINGS, in any order, each at most once:\n"
    ++ codes "  frames=N     has N frames for pages, for run alone: 1 to 1024, else 16\n"
    ++ codes "  saved=N      saves at most N evicted pages, for run alone: 0 to 1024, else 16\n"
    ++ codes "  bound=N      runs at most N blocks of each image: 1 to 1000000, else 100000\n"
    ++ codes "  limit=N      takes at most N bytes of output of each: 1 to 1048576, else 65536\n"
    ++ codes "  script=FILE  plays the events of a file first, for run alone\n"
    ++ codes "  dump=yes     shows the memory that isn't 0\n"
    ++ codes "Status: 0 done, 1 a file is refused, 2 words without a form, 3 a file or the output fails, 4 no memory\n"
    ++ codes "The manual is docs/MANUAL.md.\n"

-- the page that `--help` puts out
abbrev pub help_page : List ℕ
help_page = help_commands ++ help_rest
