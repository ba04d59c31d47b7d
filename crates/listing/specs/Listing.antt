-- The listing of a trace file, as bytes in ASCII.
use Rattle.std.specs.Prelude.{cond, List, [], ◌∷◌, ◌++◌, map, ℕ, zero, suc, ◌+◌, ◌/◌, ◌%◌, eqb, ltb, get_or}
use Rattle.policy.specs.Policy.{as_read}
use Rattle.domains.specs.Domains.{max_domains, domain_of}
use Rattle.geometry.specs.Named.{geometry_of}
use Rattle.geometry.specs.declared.Geometry.{Geometry}
use Rattle.domains.specs.declared.Counts.{Counts}
use Rattle.domains.specs.declared.Domain.{Domain}
use Rattle.domains.specs.declared.Domains.{Domains}
use Rattle.command.specs.Command.{Command}
use Rattle.selectors.specs.Selectors.{max_cores}
use Rattle.cores.specs.Run.{core_answers, core_finally, fresh_lent}
use Rattle.tracefile.specs.File.{step_count, steps_of, file_refusal}

-- A number "in decimal", of at most k digits.
unfoldable pub decimal_by : ℕ → ℕ → List ℕ
decimal_by zero n = []
decimal_by (suc k) n = cond (ltb n 10) [] (decimal_by k (n / 10)) ++ (48 + n % 10) ∷ []

-- Twenty digits hold every number of 64 bits.
abbrev pub decimal : ℕ → List ℕ
decimal n = decimal_by 20 n

-- A line, "one space between": a space after each field, and after the last the line's end.
unfoldable pub line : List (List ℕ) → List ℕ
line [] = []
line (x ∷ []) = x ++ 10 ∷ []
line (x ∷ y ∷ rest) = x ++ 32 ∷ line (y ∷ rest)

-- The words `refused` and `domain`.
abbrev pub refused : List ℕ
refused = 114 ∷ 101 ∷ 102 ∷ 117 ∷ 115 ∷ 101 ∷ 100 ∷ []

abbrev pub domain : List ℕ
domain = 100 ∷ 111 ∷ 109 ∷ 97 ∷ 105 ∷ 110 ∷ []

-- The words of the answers, in the order of their numbers.
abbrev pub words : List (List ℕ)
words =
    -- hit
    (104 ∷ 105 ∷ 116 ∷ [])
    -- fill
    ∷ (102 ∷ 105 ∷ 108 ∷ 108 ∷ [])
    -- evict
    ∷ (101 ∷ 118 ∷ 105 ∷ 99 ∷ 116 ∷ [])
    -- pass
    ∷ (112 ∷ 97 ∷ 115 ∷ 115 ∷ [])
    -- flush
    ∷ (102 ∷ 108 ∷ 117 ∷ 115 ∷ 104 ∷ [])
    -- absent
    ∷ (97 ∷ 98 ∷ 115 ∷ 101 ∷ 110 ∷ 116 ∷ [])
    -- policy
    ∷ (112 ∷ 111 ∷ 108 ∷ 105 ∷ 99 ∷ 121 ∷ [])
    ∷ refused
    -- select
    ∷ (115 ∷ 101 ∷ 108 ∷ 101 ∷ 99 ∷ 116 ∷ [])
    ∷ []

-- An answer's "word and fields".
unfoldable pub told : List ℕ → List (List ℕ)
told [] = []
told (w ∷ values) = get_or words w [] ∷ map decimal values

-- "for each step its place from 0, a word and fields"
unfoldable pub answer_lines : ℕ → List (List ℕ) → List ℕ
answer_lines i [] = []
answer_lines i (a ∷ rest) = line (decimal i ∷ told a) ++ answer_lines (i + 1) rest

-- "`domain`, number and five counts", and document 02's job 6: "fills and dropped, in that order at its end and on the domain line".
unfoldable pub domain_line : ℕ → Counts → List ℕ
domain_line d c =
    line
    (domain ∷ decimal d ∷ decimal c.hits ∷ decimal c.misses ∷ decimal c.evicted ∷ decimal c.written ∷ decimal c.flushed
    ∷ decimal c.fills ∷ decimal c.dropped ∷ [])

-- Of "each domain whose hit map is not empty" its line, where a set has W ways; of another nothing.
unfoldable pub domain_part : ℕ → ℕ → Domain → List ℕ
domain_part W d x = cond (eqb (as_read W (record { hit = x.hit; fill = x.fill })).hit 0) [] (domain_line d x.counts)

-- "ascending": the k domains from d on.
unfoldable pub domain_lines : ℕ → Domains → ℕ → ℕ → List ℕ
domain_lines W domains d zero = []
domain_lines W domains d (suc k) = domain_part W d (domain_of domains d) ++ domain_lines W domains (d + 1) k

-- "first sets, ways, rule and n"
abbrev pub head_line : Geometry → ℕ → List ℕ
head_line g n = line (decimal g.sets ∷ decimal g.ways ∷ decimal g.rule ∷ decimal n ∷ [])

-- "the one line `refused` and the number"
abbrev pub refused_line : ℕ → List ℕ
refused_line n = line (refused ∷ decimal n ∷ [])

-- "The lister lends 32 records."
abbrev pub lister_cores : ℕ
lister_cores = max_cores

-- The first line, then the steps of the run from a fresh cache, then the domains at its end.
unfoldable pub run_lines : Geometry → List Command → ℕ → List ℕ
run_lines g cs n =
    let lent = fresh_lent g lister_cores in
    head_line g n ++ (answer_lines 0 (core_answers g cs lent) ++ domain_lines g.ways (core_finally g cs lent).cache.domains 0 max_domains)

-- "A file refused by 10 or by 1 gives the one line `refused` and the number."
unfoldable pub listing : List ℕ → List ℕ
listing file =
    cond (eqb (file_refusal file) 0) (run_lines (geometry_of file) (steps_of file) (step_count file)) (refused_line (file_refusal file))
