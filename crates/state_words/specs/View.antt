-- What the words and the values represent: the tables of 01, the clients' records, and the world that consists of both.
use Rattle.std.specs.Prelude.{ℕ, ◌*◌, ◌%◌, List, [], get_or, take, replicate}
use Rattle.laws.specs.Flags.{flag, flags}
use Rattle.laws.specs.Parts.{parts}
use Rattle.laws.specs.Tabulate.{tabulate}
use Rattle.protocol.specs.declared.records.Copy.{Copy}
use Rattle.protocol.specs.declared.records.Request.{Request}
use Rattle.protocol.specs.declared.setup.Setup.{Setup}
use Rattle.protocol.specs.declared.tables.Tables.{Tables}
use Rattle.protocol.specs.Tables.{no_copy, fresh_request}
use Rattle.protocol.specs.World.{World}
use Rattle.state_words.specs.Fields.{word_lengths, value_lengths, CLOCK, VOLUME_EPOCH, VOLUME_EXPIRY, GUARD, SEEN, SESSION_EXPIRY}
use Rattle.state_words.specs.Fields.{UNREACHABLE, OFFER, VERSION, OBJECT_EXPIRY, STANDING, END, LEASE, WAITING, NOTES, BATCH, VIEW_EPOCH}
use Rattle.state_words.specs.Fields.{VIEW_EXPIRY, COPY_VERSION, COPY_EXPIRY, REQUEST_NEXT, REQUEST_STANDING, REQUEST_NUMBER}
use Rattle.state_words.specs.Fields.{REQUEST_OBJECT, VALUE, PENDING, COPY_VALUE}
use Rattle.state_words.specs.Rows.{queue_in}

-- the tables in these fields
abbrev pub tables_in : (ℕ → List ℕ) → (ℕ → List ℕ) → Tables
tables_in words values = record {
  clock = get_or (words CLOCK) 0 0;
  volumes = record { epoch = words VOLUME_EPOCH; expiry = words VOLUME_EXPIRY; guard = words GUARD };
  sessions = record {
    seen = words SEEN;
    expiry = words SESSION_EXPIRY;
    unreachable = flags (words UNREACHABLE);
    offer = words OFFER;
    notes = words NOTES;
    batch = words BATCH;
  };
  objects = record {
    value = values VALUE;
    version = words VERSION;
    expiry = words OBJECT_EXPIRY;
    standing = flags (words STANDING);
    pending = values PENDING;
    end = words END;
  };
  holders = record { lease = words LEASE; waiting = words WAITING };
  views = record { epoch = words VIEW_EPOCH; expiry = words VIEW_EXPIRY };
  queue = queue_in words values;
}

unfoldable pub tables_of : List ℕ → List ℕ → Tables
tables_of words values = tables_in (parts word_lengths words) (parts value_lengths values)

-- the tables from the words alone, for code that reads no value
abbrev pub numbers_of : List ℕ → Tables
numbers_of words = tables_of words []

-- ---- the clients' records: room for 16 clients with 32 copies each

abbrev pub copy_at : List ℕ → List ℕ → List ℕ → ℕ → Copy
copy_at version value expiry i = record { version = get_or version i 0; value = get_or value i 0; expiry = get_or expiry i 0 }

-- only the lowest byte of a request's object counts
abbrev pub request_at : List ℕ → List ℕ → List ℕ → List ℕ → ℕ → Request
request_at next standing number object d = record {
  next = get_or next d 0;
  standing = flag (get_or standing d 0);
  number = get_or number d 0;
  object = get_or object d 0 % 256;
}

pub record Records : Type 0 where
  pub copies : List Copy
  pub requests : List Request

abbrev pub records_in : (ℕ → List ℕ) → (ℕ → List ℕ) → Records
records_in words values = record {
  copies = tabulate (copy_at (words COPY_VERSION) (values COPY_VALUE) (words COPY_EXPIRY)) 0 512;
  requests = tabulate (request_at (words REQUEST_NEXT) (words REQUEST_STANDING) (words REQUEST_NUMBER) (words REQUEST_OBJECT)) 0 16;
}

unfoldable pub records_of : List ℕ → List ℕ → Records
records_of words values = records_in (parts word_lengths words) (parts value_lengths values)

abbrev pub fresh_records : Records
fresh_records = record { copies = replicate 512 no_copy; requests = replicate 16 fresh_request }

-- the requests, which consist of words only
abbrev pub requests_of : List ℕ → List Request
requests_of words = (records_of words []).requests

-- the world of a setup; its records are the first of those in the words and values
abbrev pub world_of : Setup → List ℕ → List ℕ → World
world_of s words values = record {
  tables = tables_of words values;
  copies = take (s.clients * s.objects) (records_of words values).copies;
  requests = take s.clients (records_of words values).requests;
}
