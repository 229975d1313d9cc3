-- Texts with a fault: each reason at its edge, where a greater one would apply too or a smaller one nearly does.
use Rattle.std.specs.Prelude.{◌≡◌, [], ◌∷◌, ◌++◌, Some, codes, refl}
use Rattle.script_rules.specs.declared.reasons.Reason.TheVariants.{ForeignByte, ForeignWord, WrongCount, NoNumber, OutOfRange, OutOfPart, NameTaken, Unknown, OutOfTime, NoSuchColumn, ReadsAhead, PartMissing, AgainstState, PastLimit}
use Rattle.trial_scripts.specs.Opened.{all_opened, refused_at, sources, operators, phases, negs}

-- ---- a foreign byte

-- a comment's bytes are looked at too
pub foreign_byte_in_comment : refused_at (codes "#" ++ (9 ∷ []) ++ codes "\n") ≡ Some (1, ForeignByte)
unfolding all_opened
foreign_byte_in_comment = refl

-- ---- a word that can't stand at its place

-- a comment begins with its first byte
pub indented_hash : refused_at (codes " # x\n") ≡ Some (1, ForeignWord)
unfolding all_opened
indented_hash = refl

pub word_before_number : refused_at (operators ++ codes "filter m b plus c0 01\n") ≡ Some (9, ForeignWord)
unfolding all_opened
word_before_number = refl

pub node_of_no_number : refused_at (phases ++ codes "cut a f.00\n") ≡ Some (11, ForeignWord)
unfolding all_opened
node_of_no_number = refl

pub node_for_source : refused_at (phases ++ codes "emit f.0 1\n") ≡ Some (11, ForeignWord)
unfolding all_opened
node_for_source = refl

-- ---- a wrong number of words

-- the ninth stream is not looked at
pub past_the_last_place : refused_at (sources ++ codes "fragment f 1 a b c d e g h i J\n") ≡ Some (7, WrongCount)
unfolding all_opened
past_the_last_place = refl

pub key_alone : refused_at (operators ++ codes "join m a b 5 0\n") ≡ Some (9, WrongCount)
unfolding all_opened
key_alone = refl

-- ---- no number at a number's place

-- behind it no word is looked at
pub count_of_no_number : refused_at (operators ++ codes "map m b x c0 Q\n") ≡ Some (9, NoNumber)
unfolding all_opened
count_of_no_number = refl

pub minus_zero : refused_at (sources ++ codes "log a 1 -0\n") ≡ Some (7, NoNumber)
unfolding all_opened
minus_zero = refl

-- ---- a number out of its range

pub past_i64 : refused_at (sources ++ codes "log a 1 9223372036854775808\n") ≡ Some (7, OutOfRange)
unfolding all_opened
past_i64 = refl

pub nine_expressions : refused_at (operators ++ codes "map m b 9 1 1 1 1 1 1 1 1 1\n") ≡ Some (9, OutOfRange)
unfolding all_opened
nine_expressions = refl

pub past_end : refused_at (phases ++ codes "emit a 21\n") ≡ Some (11, OutOfRange)
unfolding all_opened
past_end = refl

-- ---- a line in the wrong part

pub begin_in_header : refused_at (codes "borealis 1\nwidth 10\nbegin\n") ≡ Some (3, OutOfPart)
unfolding all_opened
begin_in_header = refl

pub behind_settle : refused_at (phases ++ codes "settle\nsettle\n") ≡ Some (12, OutOfPart)
unfolding all_opened
behind_settle = refl

-- ---- a name that is taken, a stream twice

pub stream_twice : refused_at (sources ++ codes "fragment f 1 a a\n") ≡ Some (7, NameTaken)
unfolding all_opened
stream_twice = refl

pub name_before_column : refused_at (operators ++ codes "filter a a c7\n") ≡ Some (9, NameTaken)
unfolding all_opened
name_before_column = refl

-- ---- an unknown name, two actors without a link

pub two_sources : refused_at (phases ++ codes "cut a b\n") ≡ Some (11, Unknown)
unfolding all_opened
two_sources = refl

pub client_crashes : refused_at (phases ++ codes "crash c\n") ≡ Some (11, Unknown)
unfolding all_opened
client_crashes = refl

-- ---- a log time below the last one, or not below end

-- a log's time has no range of its own
pub wide_time : refused_at (sources ++ codes "log a 99999999999999999999999999999999999999999999 1\n") ≡ Some (7, OutOfTime)
unfolding all_opened
wide_time = refl

-- equal lines are no fault
pub earlier_time : refused_at (sources ++ codes "log a 5 1\nlog b 5 1 1\nlog a 5 1\nlog a 4 1\n") ≡ Some (10, OutOfTime)
unfolding all_opened
earlier_time = refl

-- ---- columns

pub unequal_union : refused_at (operators ++ codes "union m a b\n") ≡ Some (9, NoSuchColumn)
unfolding all_opened
unequal_union = refl

pub nine_columns : refused_at (operators ++ codes "aggregate m b 10 5 c0 count count count count count count count count\n") ≡ Some (9, NoSuchColumn)
unfolding all_opened
nine_columns = refl

-- a key has no range of its own
pub wide_key : refused_at (operators ++ codes "join m a b 5 0 99999999999999999999999999999999999999999\n") ≡ Some (9, NoSuchColumn)
unfolding all_opened
wide_key = refl

-- a fragment without an operator has no column
pub column_of_empty_fragment : refused_at (sources ++ codes "fragment f 1 a\nfragment g 1 f\nfilter k f c0\n") ≡ Some (9, NoSuchColumn)
unfolding all_opened
column_of_empty_fragment = refl

-- ---- a stream that wasn't declared before

pub own_stream : refused_at (sources ++ codes "fragment f 1 f\n") ≡ Some (7, ReadsAhead)
unfolding all_opened
own_stream = refl

-- ---- a part missing

pub nothing : refused_at ([]) ≡ Some (1, PartMissing)
unfolding all_opened
nothing = refl

pub empty_fragment : refused_at (sources ++ codes "fragment f 1 a\nclient c f\nbegin\n") ≡ Some (9, PartMissing)
unfolding all_opened
empty_fragment = refl

pub no_tick : refused_at (phases ++ codes "crash f.0\nsettle\n") ≡ Some (13, PartMissing)
unfolding all_opened
no_tick = refl

-- ---- against the clock, or what a node is

pub crashes_twice : refused_at (phases ++ codes "crash f.0\nrestart f.0\ncrash f.0\ntick 1\ncrash f.0\n") ≡ Some (15, AgainstState)
unfolding all_opened
crashes_twice = refl

pub clock_falls : refused_at (phases ++ codes "tick 5\ntick 5\ntick 4\n") ≡ Some (13, AgainstState)
unfolding all_opened
clock_falls = refl

-- ---- past a limit

pub many_buckets : refused_at (codes "borealis 1\nwidth 10\ndelay 5\nend 100010\n") ≡ Some (4, PastLimit)
unfolding all_opened
many_buckets = refl

-- 64 windows are no fault
pub many_windows : refused_at (operators ++ codes "aggregate k2 b 64 1 - count\naggregate m b 65 1 - count\n") ≡ Some (10, PastLimit)
unfolding all_opened
many_windows = refl

-- 64 words are no fault
pub long_expression : refused_at (operators ++ codes "filter k2 b " ++ negs 63 ++ codes "1\nfilter m b " ++ negs 64 ++ codes "1\n") ≡ Some (10, PastLimit)
unfolding all_opened
long_expression = refl
