mod EachLine
