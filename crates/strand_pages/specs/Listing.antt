-- A log as its pages and its list of adds.
use Rattle.strand_pages.specs.Tables.{Table}
use Rattle.strand_pages.specs.declared.log.PageLog.TheInside.{Inside}

abbrev pub table_of : Inside → Table
table_of x = record { pages = x.pages; adds = x.list }
